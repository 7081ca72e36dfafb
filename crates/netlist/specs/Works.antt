-- A netlist under construction, as the code holds it.
-- Only proofs use these definitions: no promise to a user names them.
use Rattle.std.specs.Prelude.{◌≡◌, ℕ, ◌+◌, ◌-◌, ◌<◌, ◌≤◌, Bool, is_some, None, Option, slice_index, slice_index_or}
use Rattle.std.specs.Option.{unwrap_or}
use Rattle.arrayvec.specs.ArrayVec.{array_vec_len}
use Rattle.netlist.specs.declared.parts.Net.{Net}
use Rattle.netlist.specs.declared.parts.Net.TheVariants.{Zero, Cell}
use Rattle.netlist.specs.declared.parts.Cell.{Cell as CellT}
use Rattle.netlist.specs.declared.bus.Bus.{Bus}
use Rattle.netlist.specs.declared.work.Work.{Work}
use Rattle.netlist.specs.Building.{Cells, cell_at, Appended, Written, gate_row, chain_row}
use Rattle.netlist.specs.Rows.{no_bus, net_of}

abbrev pub cells_of : Work → Cells
cells_of w = cell_at w.cells.items

abbrev pub count_of : Work → ℕ
count_of w = array_vec_len w.cells

-- what is noted of a node: its nets, if it is laid out
abbrev pub noted : Work → ℕ → Option Bus
noted w n = slice_index_or w.buses n None

abbrev pub is_laid : Work → ℕ → Bool
is_laid w n = is_some (noted w n)

abbrev pub bus_at : Work → ℕ → Bus
bus_at w n = unwrap_or (noted w n) no_bus

abbrev pub nets_at : Work → ℕ → ℕ → Net
nets_at w n = net_of (bus_at w n)

abbrev pub outs_of : Work → ℕ → ℕ
outs_of w m = slice_index w.outputs m

abbrev pub zeros : ℕ → Net
zeros k = Zero

-- what is noted of nodes and outputs is as it was
pub record SameNotes (w w₁ : Work) : Type 0 where
  pub buses : w₁.buses ≡ w.buses
  pub outputs : w₁.outputs ≡ w.outputs

-- so many cells from some place on are written, and nothing else changes
pub record Wrote (w w₁ : Work) (at m : ℕ) (new : ℕ → CellT) : Type 0 where
  pub cells : Written (cells_of w) (cells_of w₁) at m new
  pub count : count_of w₁ ≡ count_of w
  pub notes : SameNotes w w₁

-- a row of so many cells is added, with its nets
pub record RowLaid (w w₁ : Work) (m : ℕ) (new : ℕ → CellT) (bus : Bus) : Type 0 where
  pub cells : Appended (cells_of w) (count_of w) (cells_of w₁) m new
  pub count : count_of w₁ ≡ count_of w + m
  pub nets : (k : ℕ) → k < 64 → net_of bus k ≡ Cell (count_of w + k)
  pub notes : SameNotes w w₁

-- what a row of so many cells asks: it is no longer than a word, and there is room for it
pub record RowAsks (w : Work) (m : ℕ) : Type 0 where
  pub narrow : m ≤ 64
  pub room : count_of w + m ≤ 1024

-- a comparison: a chain of cells, of which the last carries the result
pub record Compared (w w₁ : Work) (m : ℕ) (new : ℕ → CellT) (bus : Bus) : Type 0 where
  pub cells : Appended (cells_of w) (count_of w) (cells_of w₁) m new
  pub count : count_of w₁ ≡ count_of w + m
  pub last : net_of bus 0 ≡ Cell (count_of w + (m - 1))
  pub notes : SameNotes w w₁

-- a sum: a chain of carries, and a row of gates that are handed them
pub record Summed (w w₂ : Work) (a b m : ℕ) (bus : Bus) : Type 0 where
  pub between : Cells
  pub into : ℕ → Net
  pub chain : Appended (cells_of w) (count_of w) between m (chain_row 232 232 (nets_at w a) (nets_at w b) (count_of w))
  pub into_low : into 0 ≡ Zero
  pub into_high : (k : ℕ) → k + 1 < m → into (k + 1) ≡ Cell (count_of w + k)
  pub sums : Appended between (count_of w + m) (cells_of w₂) m (gate_row 150 (nets_at w a) (nets_at w b) into)
  pub count : count_of w₂ ≡ count_of w + m + m
  pub nets : (k : ℕ) → k < 64 → net_of bus k ≡ Cell (count_of w + m + k)
  pub notes : SameNotes w w₂
