use Rattle.std.proofs.Common.{rules}
use Rattle.design.specs.Designs.{word}
use Rattle.player.specs.Operations.{concat_word}
use Rattle.player.proofs.operations.concat.Goals as goal

pub returns : goal.returns
returns c = c.joined.ensures (concat_word (word c.args.high) (word c.args.low) c.args.of) (λ k b l p. search rules)
