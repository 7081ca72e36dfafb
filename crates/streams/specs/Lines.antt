-- The lines of a stream.
use Rattle.std.specs.Prelude.{◌≡◌, ℕ, ◌*◌, ◌<◌, List, length}
use Rattle.std.specs.Borrow.{Bor}
use Rattle.words.specs.Cuts.{Lines, Words, piece_at}
use Rattle.streams.specs.declared.unplayed.Unplayed.{Unplayed}
use Rattle.streams.specs.declared.unplayed.Unplayed.TheVariants.{Memory, Line, Turned}

-- the line has a name and a number for each of so many inputs
pub record TickLine (inputs : ℕ) (line : List ℕ) : Type 0 where
  pub words : List (Bor (List ℕ))
  pub cut : Words line words
  pub pairs : length words ≡ 2 * inputs

-- so has each of the first lines
abbrev pub StreamLines : ℕ → List (Bor (List ℕ)) → ℕ → Type 0
StreamLines inputs lines ticks = (k : ℕ) → k < ticks → TickLine inputs (piece_at lines k)

-- so has each line of the text
pub record Playable (inputs : ℕ) (text : List ℕ) : Type 0 where
  pub lines : List (Bor (List ℕ))
  pub cut : Lines text lines
  pub each : StreamLines inputs lines (length lines)

-- want of memory, or that line can't be read
abbrev pub AtLine : ℕ → Unplayed → Type 0
AtLine at Memory = Unit {0}
AtLine at (Line line) = line ≡ at
AtLine at (Turned refusal) = ⊥

-- want of memory, or some line can't be read
abbrev pub SomeLine : Unplayed → Type 0
SomeLine Memory = Unit {0}
SomeLine (Line line) = Unit {0}
SomeLine (Turned refusal) = ⊥
