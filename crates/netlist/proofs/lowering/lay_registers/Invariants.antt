use Rattle.std.proofs.Common.{◌≡◌}
use Rattle.design.specs.Designs.{total}
use Rattle.design.specs.Numbers.{design_in}
use Rattle.netlist.specs.Lowerings.{RegistersIn}
use Rattle.netlist.proofs.lowering.lay_registers.Given as goal

abbrev pub invariant-loop-r : goal.invariant-loop-r
invariant-loop-r l = RegistersIn l.task.analysis.design.numbers.now l.work l.r × (l.start ≡ total l.r (design_in l.task.analysis.design.numbers.now).register_width)
