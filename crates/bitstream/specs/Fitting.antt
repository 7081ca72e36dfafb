-- A netlist and a layout that fit each other.
-- Only proofs use these definitions: no promise to a user names them.
use Rattle.std.specs.Prelude.{◌≡◌, ℕ, ◌+◌, ◌<◌, slice_index}
use Rattle.netlist.specs.declared.parts.Net.TheVariants.{Input, Cell}
use Rattle.netlist.specs.declared.parts.Cell.{Cell as CellT}
use Rattle.netlist.specs.declared.netlists.Netlist.{Netlist as NetlistT}
use Rattle.netlist.specs.Building.{cell_at, input_of}
use Rattle.route.specs.declared.plain.Plain.{Plain}

-- the netlist's cell that stands at the fabric's cell c, or one that shows 0
abbrev pub standing : NetlistT → ℕ → CellT
standing n c = cell_at n.cells c

-- the cells' inputs are there
abbrev pub NetsExist : NetlistT → Plain → Type 0
NetsExist n r = (c k j : ℕ) → k < 4 →
    (input_of (standing n c) k ≡ Input j → j < r.inputs) × (input_of (standing n c) k ≡ Cell j → j < r.placement.count)

-- of so many pins, those of the inputs first, the cells of the outputs are there
abbrev pub OutputsExist : NetlistT → Plain → (pins : ℕ) → Type 0
OutputsExist n r pins = (m : ℕ) → r.inputs + m < pins → (m < 1024) × (slice_index n.outputs m < r.placement.count)
