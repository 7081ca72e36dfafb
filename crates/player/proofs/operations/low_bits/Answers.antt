use Rattle.std.proofs.Common.{rules}
use Rattle.design.specs.Designs.{word}
use Rattle.player.proofs.operations.low_bits.Goals as goal

pub returns : goal.returns
returns c = c.joined.ensures (word c.args.n) (λ k b l p. search rules)
