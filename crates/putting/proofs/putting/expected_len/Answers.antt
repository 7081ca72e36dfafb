use Rattle.std.proofs.Common.{arith}
use Rattle.design.specs.Numbers.{expected_length, node_place, inputs_of, registers_of, outputs_of, nodes_of}
use Rattle.putting.proofs.putting.expected_len.Goals as goal

pub returns : goal.returns
unfolding expected_length node_place inputs_of registers_of outputs_of nodes_of
returns c = omega arith
