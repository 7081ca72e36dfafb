-- Laws of every fabric: its geometry, when it settles, and that this is decided. Each is a statement, proved under a function's contract.
use Rattle.std.specs.Prelude.{◌≡◌, ℕ, ◌<◌, ◌≤◌, Bool, true, false, ◌⊎◌, ◌≢◌}
use Rattle.fabric.specs.declared.parts.Side.{Side}
use Rattle.fabric.specs.declared.parts.Source.{Source}
use Rattle.fabric.specs.declared.parts.Source.TheVariants.{Nothing, Own, Track}
use Rattle.fabric.specs.Fabrics.{Size, cell_count, opposite, at_edge, neighbour, Config, Signals, Pads, sweep, swept, enough, Agree, Settles}

-- 1. Geometry: a step to a side that is no edge stays on the fabric, and the step back returns; from no cell does a step arrive over an edge.

abbrev pub StepsReturn : Type 0
StepsReturn = (z : Size) (c : ℕ) (s : Side) → c < cell_count z → at_edge z c s ≡ false →
    (neighbour z c s < cell_count z) × (at_edge z (neighbour z c s) (opposite s) ≡ false) × (neighbour z (neighbour z c s) (opposite s) ≡ c)

abbrev pub EdgesAreClosed : Type 0
EdgesAreClosed = (z : Size) (c e : ℕ) (s : Side) → c < cell_count z → e < cell_count z → at_edge z c s ≡ true →
    at_edge z e (opposite s) ≡ false → neighbour z e (opposite s) ≢ c

-- 2. Settling. Ranks give a number to every cell and track, such that whatever a cell that doesn't hold, or a track, reads has a smaller one.

pub record Rank : Type 0 where
  pub cell : ℕ → ℕ
  pub track : ℕ → Side → ℕ → ℕ

-- what the source at the cell reads, if it is a cell or a track of the fabric, has a rank below r
abbrev pub ReadsBelow : Size → Rank → (c : ℕ) → Source → (r : ℕ) → Type 0
ReadsBelow z k c Nothing r = Unit {0}
ReadsBelow z k c Own r = k.cell c < r
ReadsBelow z k c (Track s t) r = t < z.tracks → at_edge z c s ≡ false → k.track (neighbour z c s) (opposite s) t < r

pub record Ranked (z : Size) (b : Config) (k : Rank) : Type 0 where
  pub cells : (c i : ℕ) → c < cell_count z → i < 4 → b.holds c ≡ false → ReadsBelow z k c (b.input c i) (k.cell c)
  pub tracks : (c : ℕ) (s : Side) (t : ℕ) → c < cell_count z → t < z.tracks → ReadsBelow z k c (b.drive c s t) (k.track c s t)

-- With ranks, whatever they are, and a state that a sweep leaves as it is, the fabric settles, to that state and from any first one.
abbrev pub RanksSettle : Type 0
RanksSettle = (z : Size) (b : Config) (held : ℕ → Bool) (p : Pads) (k : Rank) (g : Signals) →
    Ranked z b k → Agree z (sweep z b held p g) g →
    Settles z b held p × ((start : Signals) (n : ℕ) → enough z ≤ n → Agree z (swept n z b held p start) g)

-- 3. It is decided of any configuration whether the fabric settles.
abbrev pub SettlingIsDecided : Type 0
SettlingIsDecided = (z : Size) (b : Config) (held : ℕ → Bool) (p : Pads) → Settles z b held p ⊎ (Settles z b held p → ⊥)
