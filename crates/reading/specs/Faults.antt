-- The first line of a listing, and why one isn't read.
use Rattle.std.specs.Prelude.{◌≡◌, ℕ, true, List, Some}
use Rattle.std.specs.Borrow.{Bor}
use Rattle.fabric.specs.declared.size.Size.{Size as FabricSize}
use Rattle.fabric.specs.Numbers.{size_refusal}
use Rattle.words.specs.Cuts.{Lines, Words}
use Rattle.entries.specs.Texts.{word_at}
use Rattle.entries.specs.Lines.{FabricLine}
use Rattle.reading.specs.declared.unread.Unread.{Unread}
use Rattle.reading.specs.declared.unread.Unread.TheVariants.{Memory, Size, Line}

-- these words say the size of a fabric
abbrev pub Sizes : List (Bor (List ℕ)) → FabricSize → Type 0
Sizes words z = FabricLine words z.rows z.columns z.tracks

-- so does that line
pub record Sized (line : List ℕ) (z : FabricSize) : Type 0 where
  pub words : List (Bor (List ℕ))
  pub cut : Words line words
  pub sizes : Sizes words z

-- the first line of that text; an empty text has an empty one
abbrev pub FirstLine : List ℕ → List ℕ → Type 0
FirstLine text line = (ls : List (Bor (List ℕ))) × Lines text ls × (word_at ls 0 ≡ line)

-- so does the first line of that text
pub record Headed (text : List ℕ) (z : FabricSize) : Type 0 where
  pub lines : List (Bor (List ℕ))
  pub cut : Lines text lines
  pub first : Sized (word_at lines 0) z

-- there is no fabric of a size that P holds of; or else there is no memory, or a line can't be read
abbrev pub NoSize : (FabricSize → Type 0) → Unread → Type 0
NoSize P Memory = Unit {0}
NoSize P (Size refusal) = (z : FabricSize) × P z × (size_refusal z ≡ Some refusal)
NoSize P (Line line formed) = Unit {0}

-- want of memory, or a line that is formed as it should be and can't stand
abbrev pub Standing : Unread → Type 0
Standing Memory = Unit {0}
Standing (Size refusal) = ⊥
Standing (Line line formed) = formed ≡ true

-- want of memory, or that line can't be read
abbrev pub AtLine : ℕ → Unread → Type 0
AtLine at Memory = Unit {0}
AtLine at (Size refusal) = ⊥
AtLine at (Line line formed) = line ≡ at

-- want of memory, or some line can't be read
abbrev pub SomeLine : Unread → Type 0
SomeLine Memory = Unit {0}
SomeLine (Size refusal) = ⊥
SomeLine (Line line formed) = Unit {0}
