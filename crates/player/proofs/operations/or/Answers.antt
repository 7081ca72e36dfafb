use Rattle.std.proofs.Common.{rules}
use Rattle.design.specs.Designs.{word}
use Rattle.player.specs.Operations.{or_word}
use Rattle.player.proofs.operations.or.Goals as goal

pub returns : goal.returns
returns c = c.joined.ensures (or_word (word c.args.a) (word c.args.b)) (λ k b l p. search rules)
