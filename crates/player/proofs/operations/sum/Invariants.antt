use Rattle.std.proofs.Common.{◌≡◌}
use Rattle.design.specs.Designs.{word, number, carry}
use Rattle.player.specs.Operations.{sum_word}
use Rattle.player.proofs.operations.sum.Given as goal

abbrev pub invariant-loop-k : goal.invariant-loop-k
invariant-loop-k l = (l.n ≡ number l.k (sum_word (word l.a) (word l.b))) × (l.carry ≡ carry (word l.a) (word l.b) l.k)
