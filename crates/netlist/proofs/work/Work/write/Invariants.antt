use Rattle.std.proofs.Common.{◌≡◌, ℕ, ◌<◌}
use Rattle.netlist.specs.declared.parts.Cell.{Cell as CellT}
use Rattle.netlist.specs.Building.{cell_at}
use Rattle.netlist.proofs.work.Work.write.Given as goal

abbrev pub invariant-loop-k : goal.invariant-loop-k
invariant-loop-k g l = (row : ℕ → CellT) → ((k : ℕ) (c : CellT) → k < l.width → goal.F-post g l.cell k c → c ≡ row k) → (k : ℕ) → k < l.k → cell_at l.places k ≡ row k
