use Rattle.bitstream.specs.Plans.{CellsWritten}
use Rattle.bitstream.proofs.plans.Plan.write_room.Given as goal

abbrev pub invariant-loop-at : goal.invariant-loop-at
invariant-loop-at l = CellsWritten l.self l.at l.room
