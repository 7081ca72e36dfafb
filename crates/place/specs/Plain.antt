-- The plain placement: cell j of the netlist stands on cell j of the fabric.
-- Only proofs use these definitions: no promise to a user names them.
use Rattle.std.specs.Prelude.{ℕ, ◌≤◌, cond, nat_lt}
use Rattle.fabric.specs.Fabrics.{Size, cell_count}
use Rattle.netlist.specs.declared.parts.Net.{Net}
use Rattle.netlist.specs.declared.parts.Net.TheVariants.{Zero, Cell}
use Rattle.place.specs.Places.{Places}

unfoldable pub plain_occupant : (count : ℕ) → (c : ℕ) → Net
plain_occupant n c = cond (nat_lt c n) (Cell c) Zero

-- where there is room for the cells, they have places of their own
abbrev pub PlainPlaces : Type 0
PlainPlaces = (count : ℕ) (z : Size) → count ≤ cell_count z → Places count z (λ j. j) (plain_occupant count)
