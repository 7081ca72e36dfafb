-- A fabric of look-up cells and tracks, what a configuration makes of it, and how it settles.
-- A reader has to believe these definitions. They assume nothing.
use Rattle.std.specs.Prelude.{◌≡◌, ℕ, zero, suc, ◌+◌, ◌-◌, ◌*◌, ◌/◌, ◌%◌, ◌<◌, Bool, false, cond, List, [], ◌∷◌, ◌==◌, nat_lt}
use Rattle.design.specs.Designs.{bit}
use Rattle.fabric.specs.declared.size.Size.{Size as the_size}
use Rattle.fabric.specs.declared.parts.Side.{Side}
use Rattle.fabric.specs.declared.parts.Side.TheVariants.{Right, Below, Left, Above}
use Rattle.fabric.specs.declared.parts.Source.{Source}
use Rattle.fabric.specs.declared.parts.Source.TheVariants.{Nothing, Own, Track}

-- 1. Geometry. Cells stand in rows and columns and are numbered row by row from 0; between neighbours, and out at each edge, go so
-- many tracks each way. So a size is three numbers, `columns`, `rows` and `tracks`: it is the code's `Size`.

abbrev pub Size : Type 0
Size = the_size

abbrev pub cell_count : Size → ℕ
cell_count z = z.columns * z.rows

unfoldable pub opposite : Side → Side
opposite Right = Left
opposite Below = Above
opposite Left = Right
opposite Above = Below

-- no neighbour stands on that side of the cell
unfoldable pub at_edge : Size → ℕ → Side → Bool
at_edge z c Right = c % z.columns + 1 == z.columns
at_edge z c Below = c / z.columns + 1 == z.rows
at_edge z c Left = c % z.columns == 0
at_edge z c Above = c / z.columns == 0

unfoldable pub neighbour : Size → ℕ → Side → ℕ
neighbour z c Right = c + 1
neighbour z c Below = c + z.columns
neighbour z c Left = c - 1
neighbour z c Above = c - z.columns

-- 2. The configuration: for each cell a table of sixteen bits, the sources of its four inputs, whether it shows what it held instead of
-- what it looks up, and what it holds at first; for each track that goes out of a cell on a side its source.

pub record Config : Type 0 where
  pub table : ℕ → ℕ → Bool
  pub input : ℕ → ℕ → Source
  pub holds : ℕ → Bool
  pub initial : ℕ → Bool
  pub drive : ℕ → Side → ℕ → Source

-- 3. Levels, and how they change.

-- what each cell shows, and each track that goes out of a cell on a side carries
pub record Signals : Type 0 where
  pub cell : ℕ → Bool
  pub track : ℕ → Side → ℕ → Bool

-- what comes in at the edges: cell, side, track
abbrev pub Pads : Type 0
Pads = ℕ → Side → ℕ → Bool

-- what comes in to a cell from a side on a track: at an edge from the pad, else from the neighbour's track to it of the same number
unfoldable pub incoming : Size → Pads → Signals → ℕ → Side → ℕ → Bool
incoming z p g c s t = cond (at_edge z c s) (p c s t) (g.track (neighbour z c s) (opposite s) t)

-- what a source at a cell gives; a track that the fabric hasn't got is 0
unfoldable pub read : Size → Pads → Signals → ℕ → Source → Bool
read z p g c Nothing = false
read z p g c Own = g.cell c
read z p g c (Track s t) = cond (nat_lt t z.tracks) (incoming z p g c s t) false

-- the bit of the table that the inputs say, the first counting 1, then 2, 4 and 8
unfoldable pub lookup : Size → Config → Pads → Signals → ℕ → Bool
lookup z b p g c =
    b.table c (bit (read z p g c (b.input c 0)) + 2 * bit (read z p g c (b.input c 1)) + 4 * bit (read z p g c (b.input c 2)) + 8 * bit (read z p g c (b.input c 3)))

-- one sweep: everything looks at once at what was before
unfoldable pub sweep : Size → Config → (held : ℕ → Bool) → Pads → Signals → Signals
sweep z b held p g = record {
  cell = λ c. cond (b.holds c) (held c) (lookup z b p g c);
  track = λ c s t. read z p g c (b.drive c s t);
}

unfoldable pub dark : Signals
dark = record { cell = λ c. false; track = λ c s t. false }

-- so many sweeps, from a first state
unfoldable pub swept : ℕ → Size → Config → (held : ℕ → Bool) → Pads → Signals → Signals
swept zero z b held p g = g
swept (suc n) z b held p g = sweep z b held p (swept n z b held p g)

-- as many sweeps as there are cells and tracks, and one
abbrev pub enough : Size → ℕ
enough z = cell_count z * (1 + 4 * z.tracks) + 1

-- two states that agree on the fabric's own cells and tracks
pub record Agree (z : Size) (g h : Signals) : Type 0 where
  pub cells : (c : ℕ) → c < cell_count z → g.cell c ≡ h.cell c
  pub tracks : (c : ℕ) (s : Side) (t : ℕ) → c < cell_count z → t < z.tracks → g.track c s t ≡ h.track c s t

-- 4. A tick. It begins with everything 0; then come sweeps. The fabric settles if one more sweep changes nothing.

unfoldable pub final : Size → Config → (held : ℕ → Bool) → Pads → Signals
final z b held p = swept (enough z) z b held p dark

abbrev pub Settles : Size → Config → (held : ℕ → Bool) → Pads → Type 0
Settles z b held p = Agree z (sweep z b held p (final z b held p)) (final z b held p)

-- what the cells hold after some ticks, whose pads are listed latest first: what each looked up
unfoldable pub held_after : Size → Config → List Pads → ℕ → Bool
held_after z b [] c = b.initial c
held_after z b (p ∷ before) c = lookup z b p (final z b (held_after z b before) p) c
