use Rattle.std.proofs.Common.{arith, pow_mono, lit<}
use Rattle.std.proofs.lemmas.Bool.Decides.{nat_tests}
use Rattle.std.proofs.lemmas.Nat.{shl_whole}
use Rattle.streams.proofs.streams.fits.Goals as goal

pub returns-then-width-ge64 : goal.returns-then-width-ge64
returns-then-width-ge64 c = omega (arith, pow_mono c.if-width-ge64.true)

pub returns : goal.returns
returns c = let whole = shl_whole 1 1 c.args.width 64 (lit< tt) (omega arith) in grind (arith, nat_tests)
