use Rattle.std.proofs.Common.{◌≡◌}
use Rattle.design.specs.Designs.{word, less_below, equal_below}
use Rattle.player.proofs.comparing.compare.Given as goal

abbrev pub invariant-loop-k : goal.invariant-loop-k
invariant-loop-k l = (l.less ≡ less_below (word l.a) (word l.b) l.k) × (l.equal ≡ equal_below (word l.a) (word l.b) l.k)
