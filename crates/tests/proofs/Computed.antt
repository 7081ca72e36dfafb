-- The worked example by computation.
use Rattle.std.proofs.Common.{refl}
use Rattle.design.specs.Designs.{word, width, well_formed, width_ok, register_sound, output_sound, input_sound, eval, registers_after, output_at, cells, total, register_cells, output_width, output_cells, plain_cells, input_bits, output_bits, plain_tracks}
use Rattle.design.specs.Numbers.{inputs_of, registers_of, outputs_of, nodes_of, input_place, register_place, output_place, node_place, register_node, output_node, expected_length, decode, node_in, names_below, node_ok, expr_of, expr_at, design_in, first_failing, length_refusal, content_refusal, reading_refusal, soundness_refusal}
use Rattle.tests.specs.Worked.{WorkedAnd}

pub worked_and : WorkedAnd
unfolding word width well_formed width_ok register_sound output_sound input_sound eval registers_after output_at cells total register_cells output_width output_cells plain_cells input_bits output_bits plain_tracks inputs_of registers_of outputs_of nodes_of input_place register_place output_place node_place register_node output_node expected_length decode node_in names_below node_ok expr_of expr_at design_in first_failing length_refusal content_refusal reading_refusal soundness_refusal
worked_and = (refl, refl, refl, refl, refl, refl)
