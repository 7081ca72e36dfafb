use Rattle.std.proofs.Common.{arith}
use Rattle.player.proofs.Building.{built_none}
use Rattle.player.proofs.operations.joined.Goals as goal

pub loop-k-init : goal.loop-k-init
loop-k-init g c = (omega arith, λ a is. built_none a)
