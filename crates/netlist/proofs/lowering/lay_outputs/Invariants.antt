use Rattle.std.proofs.Common.{◌≡◌}
use Rattle.design.specs.Designs.{total, output_width}
use Rattle.design.specs.Numbers.{design_in}
use Rattle.netlist.specs.Lowerings.{OutputsIn}
use Rattle.netlist.proofs.lowering.lay_outputs.Given as goal

abbrev pub invariant-loop-o : goal.invariant-loop-o
invariant-loop-o l = OutputsIn l.task.analysis.design.numbers.now l.work l.o × (l.start ≡ total l.o (output_width (design_in l.task.analysis.design.numbers.now)))
