use Rattle.std.proofs.Common.{◌≡◌, ℕ, Bool, ◌<◌, ◌^◌}
use Rattle.design.specs.Designs.{Word, number}
use Rattle.player.proofs.operations.joined.Given as goal

abbrev pub invariant-loop-k : goal.invariant-loop-k
invariant-loop-k g l = (l.n < 2 ^ l.k)
    × ((a : Word) → ((j : ℕ) (b : Bool) → j < l.k → goal.F-post g l.bit_at j b → b ≡ a j) → l.n ≡ number l.k a)
