use Rattle.std.proofs.Common.{ℕ, ◌<◌, get_or}
use Rattle.bitstream.specs.Plans.{PlanHas}
use Rattle.bitstream.proofs.plans.Plan.write_cell.Given as goal

abbrev pub invariant-loop-j : goal.invariant-loop-j
invariant-loop-j l = (k : ℕ) → k < l.j → PlanHas l.self l.at k (get_or l.numbers k 0)
