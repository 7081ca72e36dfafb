-- Which nets there are, and when there is room for the plain layout.
-- Only proofs use these definitions: no promise to a user names them.
use Rattle.std.specs.Prelude.{ℕ, ◌+◌, ◌<◌, ◌≤◌}
use Rattle.fabric.specs.Fabrics.{Size, cell_count}
use Rattle.netlist.specs.declared.parts.Net.{Net}
use Rattle.netlist.specs.declared.parts.Net.TheVariants.{Zero, Input, Cell}

-- there is such a net, with so many input bits and cells
abbrev pub Exists : (input_bits count : ℕ) → Net → Type 0
Exists i n Zero = Unit {0}
Exists i n (Input j) = j < i
Exists i n (Cell j) = j < n

-- a cell of the fabric for every cell, and a track for every net
pub record Room (z : Size) (input_bits count : ℕ) : Type 0 where
  pub cells : count ≤ cell_count z
  pub tracks : input_bits + count ≤ z.tracks
