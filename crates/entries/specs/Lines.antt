-- What a line says, by its words.
use Rattle.std.specs.Prelude.{◌≡◌, ℕ, ◌+◌, ◌<◌, Bool, cond, List, length, Some, Option, MatchOption, codes}
use Rattle.std.specs.Borrow.{Bor}
use Rattle.std.specs.Str.Parse.{IsNumeral}
use Rattle.fabric.specs.declared.parts.Pin.{Pin}
use Rattle.fabric.specs.declared.parts.Source.{Source}
use Rattle.fabric.specs.declared.parts.Source.TheVariants.{Nothing, Own, Track}
use Rattle.fabric.specs.declared.size.Size.{Size}
use Rattle.fabric.specs.Sides.{side_word}
use Rattle.words.specs.Cuts.{Words}
use Rattle.words.specs.Numbers.{Capped}
use Rattle.entries.specs.declared.entry.Direction.{Direction}
use Rattle.entries.specs.declared.entry.Direction.TheVariants.{In, Out}
use Rattle.entries.specs.declared.entry.Seat.{Seat}
use Rattle.entries.specs.declared.entry.Entry.{Entry}
use Rattle.entries.specs.declared.entry.Entry.TheVariants.{Fabric, Table, Holds, Drive, Port}
use Rattle.entries.specs.Texts.{word_at, Small, HexNumber}

-- a source, from that word on
abbrev pub SourceAt : List (Bor (List ℕ)) → ℕ → Source → Type 0
SourceAt words at Nothing = word_at words at ≡ codes "nothing"
SourceAt words at Own = word_at words at ≡ codes "own"
SourceAt words at (Track side track) = (word_at words at ≡ side_word side) × Small (word_at words (at + 1)) (Some track) × (track < 64)

-- the size that three words say; there is none where one of them is no number
abbrev pub SizeSaid : (rows columns tracks : List ℕ) → Option Size → Type 0
SizeSaid rows columns tracks r = MatchOption r
    (IsNumeral 10 rows → IsNumeral 10 columns → IsNumeral 10 tracks → ⊥)
    (λ z. Capped rows (Some z.rows) × Capped columns (Some z.columns) × Capped tracks (Some z.tracks))

-- fabric ROWS COLUMNS TRACKS
pub record FabricLine (words : List (Bor (List ℕ))) (rows columns tracks : ℕ) : Type 0 where
  pub long : length words ≡ 4
  pub first : word_at words 0 ≡ codes "fabric"
  pub second : Capped (word_at words 1) (Some rows)
  pub third : Capped (word_at words 2) (Some columns)
  pub fourth : Capped (word_at words 3) (Some tracks)

-- cell N table HHHH from ..
pub record TableLine (words : List (Bor (List ℕ))) (table : ℕ) : Type 0 where
  pub number : HexNumber (word_at words 3) table
  pub fifth : word_at words 4 ≡ codes "from"

-- cell N holds B
pub record HoldsLine (words : List (Bor (List ℕ))) (initial : Bool) : Type 0 where
  pub long : length words ≡ 4
  pub bit : word_at words 3 ≡ cond initial (codes "1") (codes "0")

-- cell N SIDE T from S
pub record DriveLine (words : List (Bor (List ℕ))) (track : ℕ) (source : Source) : Type 0 where
  pub number : Small (word_at words 3) (Some track)
  pub fifth : word_at words 4 ≡ codes "from"
  pub from : SourceAt words 5 source

-- a cell, a side and a track, from that word on
pub record PinAt (words : List (Bor (List ℕ))) (at : ℕ) (pin : Pin) : Type 0 where
  pub cell : Small (word_at words at) (Some pin.cell)
  pub side : word_at words (at + 1) ≡ side_word pin.side
  pub track : Small (word_at words (at + 2)) (Some pin.track)

-- how a direction is written
abbrev pub direction_word : Direction → List ℕ
direction_word In = codes "in"
direction_word Out = codes "out"

-- in NAME BIT at N SIDE T, or the same with out
pub record SeatLine (words : List (Bor (List ℕ))) (line : ℕ) (seat : Seat) : Type 0 where
  pub long : length words ≡ 7
  pub name : seat.name.now ≡ word_at words 1
  pub bit : Small (word_at words 2) (Some seat.bit)
  pub small : seat.bit < 64
  pub fourth : word_at words 3 ≡ codes "at"
  pub pin : PinAt words 4 seat.pin
  pub line_said : seat.line ≡ line

-- the line of that number says the entry
abbrev pub LineSays : List (Bor (List ℕ)) → ℕ → Entry → Type 0
LineSays words line (Fabric size) = FabricLine words size.rows size.columns size.tracks
LineSays words line (Table cell table sources) = (word_at words 0 ≡ codes "cell") × Small (word_at words 1) (Some cell) × (word_at words 2 ≡ codes "table") × TableLine words table
LineSays words line (Holds cell initial) = (word_at words 0 ≡ codes "cell") × Small (word_at words 1) (Some cell) × (word_at words 2 ≡ codes "holds") × HoldsLine words initial
LineSays words line (Drive cell side track source) = (word_at words 0 ≡ codes "cell") × Small (word_at words 1) (Some cell) × (word_at words 2 ≡ side_word side) × DriveLine words track source
LineSays words line (Port seat) = (word_at words 0 ≡ direction_word seat.direction) × SeatLine words line seat

-- the line of that number and that text says the entry by its words
pub record TextSays (text : List ℕ) (line : ℕ) (entry : Entry) : Type 0 where
  pub words : List (Bor (List ℕ))
  pub cut : Words text words
  pub says : LineSays words line entry
