use Rattle.std.proofs.Common.{rules}
use mathlib.Core.Bool
use Rattle.design.specs.Designs.{word}
use Rattle.player.specs.Operations.{xor_word}
use Rattle.player.proofs.operations.xor.Goals as goal

pub returns : goal.returns
unfolding Bool.xor
returns c = c.joined.ensures (xor_word (word c.args.a) (word c.args.b)) (λ k b l p. search rules)
