-- When a netlist's cells have places of their own on the fabric.
-- Only proofs use these definitions: no promise to a user names them.
use Rattle.std.specs.Prelude.{◌≡◌, ℕ, ◌<◌, ◌⊎◌}
use Rattle.fabric.specs.Fabrics.{Size, cell_count}
use Rattle.netlist.specs.declared.parts.Net.{Net}
use Rattle.netlist.specs.declared.parts.Net.TheVariants.{Zero, Cell}

-- Cell j of so many stands at the fabric's cell `home j`; `occupant c` is the net of the cell that stands at c, or `Zero` where none does.
pub record Places (count : ℕ) (z : Size) (home : ℕ → ℕ) (occupant : ℕ → Net) : Type 0 where
  pub inside : (j : ℕ) → j < count → home j < cell_count z
  pub there : (j : ℕ) → j < count → occupant (home j) ≡ Cell j
  pub only : (c : ℕ) → c < cell_count z → (occupant c ≡ Zero) ⊎ ((j : ℕ) × (j < count) × (occupant c ≡ Cell j) × (home j ≡ c))
