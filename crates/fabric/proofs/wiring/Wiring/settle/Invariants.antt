use Rattle.std.proofs.Common.{◌≤◌}
use Rattle.fabric.specs.Fabrics.{Agree, swept, dark}
use Rattle.fabric.specs.Numbers.{held_in}
use Rattle.fabric.specs.Code.{grid_of, config_of, pads_of, state_of}
use Rattle.fabric.proofs.wiring.Wiring.settle.Given as goal

abbrev pub invariant-loop : goal.invariant-loop
invariant-loop l = record {
  after : Agree (grid_of l.self) (state_of (grid_of l.self) l.levels) (swept l.counter (grid_of l.self) (config_of l.self) (held_in l.held) (pads_of l.self) dark);
  within : l.counter ≤ l.limit;
}
