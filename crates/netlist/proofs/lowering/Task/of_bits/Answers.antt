use Rattle.netlist.proofs.Landing.{input_ones, register_ones}
use Rattle.netlist.proofs.lowering.Task.of_bits.Goals as goal

pub invariant_of-result : goal.invariant_of-result
invariant_of-result c = rw c.new.ensures (record {
  lowerable = c.requires.lowerable;
  inputs_begin = record { single = λ e. input_ones _ c.requires.landed; marks = λ ms e. absurd cc };
  registers_begin = record { single = λ e. register_ones _ c.requires.landed; marks = λ ms e. absurd cc };
})
