use Rattle.std.proofs.Common.{rules}
use Rattle.design.specs.Designs.{word, single}
use Rattle.player.specs.Operations.{less_word}
use Rattle.player.proofs.operations.less.Goals as goal

pub returns : goal.returns
unfolding single
returns c = c.joined.ensures (less_word (word c.args.a) (word c.args.b) c.args.of) (λ k b l p. search rules)
