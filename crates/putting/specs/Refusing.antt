-- Which designs are turned away before they are put on a fabric.
use Rattle.std.specs.Prelude.{◌≡◌, ℕ, ◌-◌, ◌^◌, ◌<◌, min, not, List, length, Option, ◌==◌}
use Rattle.std.specs.Borrow.{Bor}
use Rattle.std.specs.Option.{option_or}
use Rattle.std.specs.Bool.{then_some}
use Rattle.design.specs.declared.refusal.Refusal.{Refusal}
use Rattle.design.specs.declared.refusal.Refusal.TheVariants.{DesignLength, Text}
use Rattle.design.specs.Numbers.{expected_length}
use Rattle.fabric.specs.Fabrics.{Size}
use Rattle.fabric.specs.Numbers.{size_refusal}
use Rattle.words.specs.Cuts.{Lines}
use Rattle.putting.specs.declared.unput.Unput.{Unput}
use Rattle.putting.specs.declared.unput.Unput.TheVariants.{Memory, Turned}

-- how many numbers there should be; more than 64 bits can say counts as the most that they can
abbrev pub expected : List ℕ → ℕ
expected xs = min (expected_length xs) (2 ^ 64 - 1)

-- the fabric is looked at first, then how many numbers there are
abbrev pub asked_refusal : Size → List ℕ → Option Refusal
asked_refusal z xs = option_or (size_refusal z) (then_some (not (length xs == expected xs)) (DesignLength (expected xs)))

-- want of memory, or that line can't be read
abbrev pub AtLine : ℕ → Unput → Type 0
AtLine at Memory = Unit {0}
AtLine at (Turned refusal) = refusal ≡ Text at

-- want of memory, or one of so many lines can't be read
abbrev pub SomeLine : ℕ → Unput → Type 0
SomeLine many Memory = Unit {0}
SomeLine many (Turned refusal) = (line : ℕ) × (line < many) × (refusal ≡ Text line)

-- want of memory, or a line of the text can't be read
abbrev pub Unreadable : List ℕ → Unput → Type 0
Unreadable text Memory = Unit {0}
Unreadable text (Turned refusal) = (ls : List (Bor (List ℕ))) × Lines text ls × SomeLine (length ls) (Turned refusal)
