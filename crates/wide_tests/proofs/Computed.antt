-- The worked examples by computation.
use Rattle.std.proofs.Common.{refl}
use mathlib.Core.Bool.{xor}
use Rattle.design.specs.Designs.{number, word, carry, less_below, single, width, well_formed, width_ok, register_sound, output_sound, input_sound, eval, registers_after, output_at, cells, total, register_cells, output_width, output_cells, plain_cells, input_bits, output_bits, plain_tracks}
use Rattle.design.specs.Numbers.{inputs_of, registers_of, outputs_of, nodes_of, input_place, register_place, output_place, node_place, register_node, output_node, expected_length, decode, node_in, names_below, node_ok, expr_of, expr_at, design_in, first_failing, length_refusal, content_refusal, reading_refusal, soundness_refusal}
use Rattle.wide_tests.specs.Worked.{WorkedExamples}

pub worked_examples : WorkedExamples
unfolding xor number word width well_formed width_ok register_sound output_sound input_sound carry less_below single eval registers_after output_at cells total register_cells output_width output_cells plain_cells input_bits output_bits plain_tracks inputs_of registers_of outputs_of nodes_of input_place register_place output_place node_place register_node output_node expected_length decode node_in names_below node_ok expr_of expr_at design_in first_failing length_refusal content_refusal reading_refusal soundness_refusal
worked_examples = ((refl, refl, refl, refl, refl), (refl, refl, refl, refl, refl), (refl, refl, refl, refl, refl))
