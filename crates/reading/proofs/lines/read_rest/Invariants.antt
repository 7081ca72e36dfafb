use Rattle.std.proofs.Common.{◌≡◌}
use Rattle.reading.proofs.lines.read_rest.Given as goal

abbrev pub invariant-loop-line : goal.invariant-loop-line
invariant-loop-line l = l.draft.grid ≡ l.fn.grid
