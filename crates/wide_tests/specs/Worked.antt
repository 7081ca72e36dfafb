-- Worked examples: designs in numbers, what they take up, and what they show for a stream.
-- A reader has to believe these definitions. They assume nothing.
use Rattle.std.specs.Prelude.{◌≡◌, ℕ, List, [], ◌∷◌, None, slice_index}
use Rattle.design.specs.Designs.{number, word, Words, Design, output_width, output_at, plain_cells, plain_tracks}
use Rattle.design.specs.Numbers.{design_in, reading_refusal, soundness_refusal}

-- the inputs of a tick, given by numbers
abbrev pub given : List ℕ → Words
given xs i = word (slice_index xs i)

-- the numbers that output 0 shows for the ticks of a stream, after the ticks `before`, which are listed latest first
abbrev pub shown : Design → (before : List Words) → (stream : List (List ℕ)) → List ℕ
shown d before [] = []
shown d before (xs ∷ stream) = number (output_width d 0) (output_at d (given xs) before 0) ∷ shown d (given xs ∷ before) stream

-- a design of so many plain cells and tracks, a stream, and what it shows
pub record Example : Type 0 where
  pub numbers : List ℕ
  pub cells : ℕ
  pub tracks : ℕ
  pub stream : List (List ℕ)
  pub shows : List ℕ

abbrev pub Holds : Example → Type 0
Holds e = (reading_refusal e.numbers ≡ None)
    × (soundness_refusal (design_in e.numbers) ≡ None)
    × (plain_cells (design_in e.numbers) ≡ e.cells)
    × (plain_tracks (design_in e.numbers) ≡ e.tracks)
    × (shown (design_in e.numbers) [] e.stream ≡ e.shows)

-- a & b of one bit each
abbrev pub and_example : Example
and_example = record {
  numbers = 2 ∷ 0 ∷ 1 ∷ 3 ∷ 1 ∷ 1 ∷ 2 ∷ 0 ∷ 0 ∷ 0 ∷ 0 ∷ 0 ∷ 1 ∷ 0 ∷ 0 ∷ 3 ∷ 0 ∷ 1 ∷ 0 ∷ [];
  cells = 2;
  tracks = 4;
  stream = (1 ∷ 0 ∷ []) ∷ (1 ∷ 1 ∷ []) ∷ [];
  shows = 0 ∷ 1 ∷ [];
}

-- a: 4, go: 1, a register acc: 4 = 0 that becomes mux(go, acc + a, acc), and is shown
abbrev pub sum_example : Example
sum_example = record {
  numbers = 2 ∷ 1 ∷ 1 ∷ 5 ∷ 4 ∷ 1 ∷ 4 ∷ 0 ∷ 4 ∷ 2
      ∷ 0 ∷ 0 ∷ 0 ∷ 0 ∷ 0 ∷ 1 ∷ 0 ∷ 0 ∷ 1 ∷ 0 ∷ 0 ∷ 0 ∷ 7 ∷ 2 ∷ 0 ∷ 0 ∷ 10 ∷ 1 ∷ 3 ∷ 2 ∷ [];
  cells = 20;
  tracks = 25;
  stream = (3 ∷ 1 ∷ []) ∷ (5 ∷ 0 ∷ []) ∷ (14 ∷ 1 ∷ []) ∷ (0 ∷ 0 ∷ []) ∷ [];
  shows = 0 ∷ 3 ∷ 3 ∷ 1 ∷ [];
}

-- a < b of three bits each
abbrev pub less_example : Example
less_example = record {
  numbers = 2 ∷ 0 ∷ 1 ∷ 3 ∷ 3 ∷ 3 ∷ 2 ∷ 0 ∷ 0 ∷ 0 ∷ 0 ∷ 0 ∷ 1 ∷ 0 ∷ 0 ∷ 8 ∷ 0 ∷ 1 ∷ 0 ∷ [];
  cells = 4;
  tracks = 10;
  stream = (2 ∷ 5 ∷ []) ∷ (5 ∷ 2 ∷ []) ∷ (4 ∷ 4 ∷ []) ∷ [];
  shows = 1 ∷ 0 ∷ 0 ∷ [];
}

abbrev pub WorkedExamples : Type 0
WorkedExamples = Holds and_example × Holds sum_example × Holds less_example
