use Rattle.std.proofs.Common.{◌≤◌, ◌∙◌, arith}
use Rattle.fabric.specs.Code.{size_of}
use Rattle.design.specs.Designs.{output_bits}
use Rattle.design.specs.Encodings.{design_of}
use Rattle.bitstream.proofs.Refusing.{few_cells, has_room, outputs_below, inputs_below, plain_room, pins_are}
use Rattle.bitstream.proofs.Putting.{nets_exist, outputs_exist}
use Rattle.bitstream.proofs.plans.Request.laid_out.Goals as goal

pub overflow_cast-inputs : goal.overflow_cast-inputs
overflow_cast-inputs c =
    let r = c.args.self in
    record { fits = omega (arith, inputs_below (size_of r.grid) (design_of r.design) c.requires.room, r.counted.inputs, r.grid.few_tracks) }

pub unreachable-requires : goal.unreachable-requires
unreachable-requires c =
    let r = c.args.self in
    let few = c.requires.lowered.few in
    c.in_default.ensures (plain_room (size_of r.grid) (design_of r.design) _ _ c.requires.room r.counted.inputs (omega (arith, few, c.count.ensures.is)))

pub invariant_of-result : goal.invariant_of-result
invariant_of-result c =
    let r = c.args.self in
    let n = c.args.netlist in
    let laid = c.in-Some.ensures in
    let d = design_of r.design in
    let inputs = laid.1 ∙ r.counted.inputs in
    let count = laid.2 ∙ c.count.ensures.is in
    let few : output_bits d ≤ 1024 = omega (arith, outputs_below d, (has_room (size_of r.grid) d c.requires.room).0, few_cells r.grid) in
    record {
      nets = nets_exist d n c.in-Some.routing c.requires.lowered inputs count;
      outputs = outputs_exist d n c.in-Some.routing c.requires.lowered inputs count _ (pins_are d r.counts r.counted) few;
    }

pub returns : goal.returns
returns c =
    let r = c.args.self in
    let laid = c.in-Some.ensures in (
      laid.0,
      record {
        lowered = c.requires.lowered;
        inputs = laid.1 ∙ r.counted.inputs;
        count = laid.2 ∙ c.count.ensures.is;
        pins = pins_are (design_of r.design) r.counts r.counted;
      },
    )
