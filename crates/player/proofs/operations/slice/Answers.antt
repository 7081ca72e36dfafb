use Rattle.std.proofs.Common.{rules}
use Rattle.design.specs.Designs.{word}
use Rattle.player.specs.Operations.{slice_word}
use Rattle.player.proofs.operations.slice.Goals as goal

pub returns : goal.returns
returns c = c.joined.ensures (slice_word c.args.low (word c.args.of)) (λ k b l p. search rules)
