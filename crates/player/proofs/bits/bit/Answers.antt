use Rattle.std.proofs.Common.{◌∙◌, arith}
use Rattle.std.proofs.lemmas.Bool.{le-ltb}
use Rattle.player.proofs.Building.{is_bit, no_bit}
use Rattle.player.proofs.bits.bit.Goals as goal

pub returns-then-k-lt64 : goal.returns-then-k-lt64
returns-then-k-lt64 c = is_bit c.args.n c.args.k

pub returns-else-k-lt64 : goal.returns-else-k-lt64
returns-else-k-lt64 c = le-ltb c.args.k 64 c.if-k-lt64.false ∙ no_bit c.args.n c.args.k (omega arith) c.if-k-lt64.false
