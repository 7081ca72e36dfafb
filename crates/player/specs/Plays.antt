-- What a player of a design says.
-- A reader has to believe these definitions. They assume nothing.
use Rattle.std.specs.Prelude.{◌≡◌, ℕ, zero, suc, ◌<◌, List, [], ◌∷◌, length, Some, None, slice_index, slice_index_or}
use Rattle.design.specs.Designs.{Words, Design, number, word, eval, output_width, output_at}
use Rattle.design.specs.Numbers.{soundness_refusal}
use Rattle.player.specs.declared.fault.Fault.{Fault}
use Rattle.player.specs.declared.fault.Fault.TheVariants.{Memory, Turned}

-- words from numbers; one that is missing counts as 0
abbrev pub words_in : List ℕ → Words
words_in xs i = word (slice_index xs i)

-- so many numbers, each by its place
pub record Lists (count : ℕ) (at : ℕ → ℕ) (xs : List ℕ) : Type 0 where
  pub long : length xs ≡ count
  pub right : (k : ℕ) → k < count → slice_index xs k ≡ at k

-- 1. One tick.

-- the numbers of the registers' words, and of the outputs'
abbrev pub Holds : Design → (regs : Words) (held : List ℕ) → Type 0
Holds d regs held = Lists d.registers (λ r. number (d.register_width r) (regs r)) held

abbrev pub Shows : Design → (outs : Words) (shown : List ℕ) → Type 0
Shows d outs shown = Lists d.outputs (λ o. number (output_width d o) (outs o)) shown

-- whatever words the registers hold, the outputs show theirs and all registers take their next words at once
abbrev pub Ticks : Design → (inputs held next shown : List ℕ) → Type 0
Ticks d inputs held next shown =
    (regs : Words) → Holds d regs held →
    Shows d (λ o. eval d (words_in inputs) regs (d.output o)) shown × Holds d (λ r. eval d (words_in inputs) regs (d.next r)) next

-- 2. Refusals.

-- an unsound design; memory fails only a sound one
abbrev pub Refuses : Design → Fault → Type 0
Refuses d Memory = soundness_refusal d ≡ None
Refuses d (Turned refusal) = soundness_refusal d ≡ Some refusal

-- 3. Streams: for each tick the numbers of its inputs.

-- the inputs of the ticks before tick t, latest first
abbrev pub before : List (List ℕ) → ℕ → List Words
before stream zero = []
before stream (suc t) = words_in (slice_index_or stream t []) ∷ before stream t

-- in each of so many ticks the outputs show what the design shows
pub record Plays (d : Design) (stream : List (List ℕ)) (ticks : ℕ) (shown : List (List ℕ)) : Type 0 where
  pub long : length shown ≡ ticks
  pub right : (t : ℕ) → t < ticks → Shows d (output_at d (words_in (slice_index_or stream t [])) (before stream t)) (slice_index_or shown t [])
