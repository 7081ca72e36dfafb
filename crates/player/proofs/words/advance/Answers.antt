use Rattle.std.proofs.Common.{arith}
use Rattle.design.specs.Encodings.{list_of}
use Rattle.design.proofs.Sound.{registers_in}
use Rattle.player.proofs.words.advance.Goals as goal

pub returns : goal.returns
returns c = λ long.
    let many = registers_in (list_of c.args.design) in
    record { long = omega (arith, c.loop-k.auto.words); right = λ j l. c.loop-k.invariant j (omega arith) (omega arith) }
