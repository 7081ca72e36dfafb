use Rattle.std.proofs.Common.{◌≡◌, ℕ, ◌+◌, ◌<◌}
use Rattle.netlist.specs.declared.parts.Cell.{Cell as CellT}
use Rattle.netlist.specs.Building.{Appended}
use Rattle.netlist.specs.Works.{cells_of, count_of, SameNotes}
use Rattle.netlist.proofs.work.Work.push.Given as goal

abbrev pub invariant-loop-k : goal.invariant-loop-k
invariant-loop-k g l = (count_of l.self ≡ count_of l.initial.self + l.k) × SameNotes l.initial.self l.self
    × ((row : ℕ → CellT) → ((k : ℕ) (c : CellT) → k < l.width → goal.F-post g l.cell k c → c ≡ row k) →
    Appended (cells_of l.initial.self) (count_of l.initial.self) (cells_of l.self) l.k row)
