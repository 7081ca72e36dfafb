use Rattle.bitstream.specs.Plans.{PinsWritten}
use Rattle.bitstream.proofs.plans.Plan.write_pins.Given as goal

abbrev pub invariant-loop-m : goal.invariant-loop-m
invariant-loop-m l = PinsWritten l.self l.m l.initial.pins l.pins
