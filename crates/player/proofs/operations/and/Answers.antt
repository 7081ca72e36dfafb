use Rattle.std.proofs.Common.{rules}
use Rattle.design.specs.Designs.{word}
use Rattle.player.specs.Operations.{and_word}
use Rattle.player.proofs.operations.and.Goals as goal

pub returns : goal.returns
returns c = c.joined.ensures (and_word (word c.args.a) (word c.args.b)) (λ k b l p. search rules)
