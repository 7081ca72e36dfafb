-- The list and the design that a read design in numbers stands for, and its counts.
-- A reader has to believe these definitions. They assume nothing.
use Rattle.std.specs.Prelude.{◌≡◌, ℕ, min, List}
use Rattle.design.specs.declared.encoded.Encoded.{Encoded}
use Rattle.design.specs.declared.counts.Counts.{Counts}
use Rattle.design.specs.Designs.{Design, input_bits, output_bits, plain_cells, plain_tracks}
use Rattle.design.specs.Numbers.{design_in}

abbrev pub list_of : Encoded → List ℕ
list_of e = e.numbers.now

abbrev pub design_of : Encoded → Design
design_of e = design_in (list_of e)

-- the bits of inputs and outputs; the cells and tracks of the plain layout, both capped at 65,536
pub record Counted (d : Design) (c : Counts) : Type 0 where
  pub inputs : c.input_bits ≡ input_bits d
  pub outputs : c.output_bits ≡ output_bits d
  pub cells : c.cells ≡ min 65536 (plain_cells d)
  pub tracks : c.tracks ≡ min 65536 (plain_tracks d)
