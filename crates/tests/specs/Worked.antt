-- A worked example: an "and" of two inputs of one bit each.
-- A reader has to believe these definitions. They assume nothing.
use Rattle.std.specs.Prelude.{◌≡◌, ℕ, true, false, cond, List, [], ◌∷◌, None, ◌==◌}
use Rattle.design.specs.Designs.{word, Words, Design, output_at, plain_cells, plain_tracks}
use Rattle.design.specs.Numbers.{design_in, reading_refusal, soundness_refusal}

-- two inputs, no register, an output, three nodes; the widths of the inputs; the node of the output; input 0, input 1, their and
abbrev pub and_numbers : List ℕ
and_numbers = 2 ∷ 0 ∷ 1 ∷ 3 ∷ 1 ∷ 1 ∷ 2 ∷ 0 ∷ 0 ∷ 0 ∷ 0 ∷ 0 ∷ 1 ∷ 0 ∷ 0 ∷ 3 ∷ 0 ∷ 1 ∷ 0 ∷ []

abbrev pub and_design : Design
and_design = design_in and_numbers

abbrev pub given : (a b : ℕ) → Words
given a b i = word (cond (i == 0) a b)

-- The list is read as a sound design that takes two cells and four tracks. Of 1 and 0 it shows 0; in a tick after that, of 1 and 1, it shows 1.
abbrev pub WorkedAnd : Type 0
WorkedAnd =
    (reading_refusal and_numbers ≡ None)
    × (soundness_refusal and_design ≡ None)
    × (plain_cells and_design ≡ 2)
    × (plain_tracks and_design ≡ 4)
    × (output_at and_design (given 1 0) [] 0 0 ≡ false)
    × (output_at and_design (given 1 1) (given 1 0 ∷ []) 0 0 ≡ true)
