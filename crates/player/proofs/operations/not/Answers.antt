use Rattle.std.proofs.Common.{rules}
use Rattle.design.specs.Designs.{word}
use Rattle.player.specs.Operations.{not_word}
use Rattle.player.proofs.operations.not.Goals as goal

pub returns : goal.returns
returns c = c.joined.ensures (not_word (word c.args.a)) (λ k b l p. search rules)
