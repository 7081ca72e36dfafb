use Rattle.std.proofs.Common.{◌≡◌, ◌<◌, sym, ◌∙◌, arith}
use Rattle.design.specs.Designs.{input_sound}
use Rattle.design.specs.Encodings.{list_of, design_of}
use Rattle.design.proofs.First.{first_start, first_more, first_found, first_end}
use Rattle.design.proofs.Sound.{inputs_in, input_test, total_none, total_step, total_end}
use Rattle.design.proofs.soundness.check_inputs.Goals as goal

pub loop-k-init : goal.loop-k-init
loop-k-init c =
    let d = design_of c.args.design in
    (first_start (input_sound d), sym (total_none d.input_width), omega arith)

pub returns-then-not-width_ok : goal.returns-then-not-width_ok
returns-then-not-width_ok c =
    let xs = list_of c.args.design in
    let d = design_of c.args.design in
    let k = c.loop-k.k in
    let l : k < d.inputs = omega (arith, inputs_in xs) in
    first_found (input_sound d) k d.inputs c.loop-k.invariant.0
    (sym (input_test d k c.input_width-width.result c.input_width-width.ensures) ∙ sym c.width_ok.ensures ∙ c.if-not-width_ok.true) l

pub loop-k-preserved : goal.loop-k-preserved
loop-k-preserved c =
    let d = design_of c.args.design in
    let k = c.loop-k.k in
    let w = c.input_width-width.result in (
      first_more (input_sound d) k c.loop-k.invariant.0 (sym (input_test d k w c.input_width-width.ensures) ∙ sym c.width_ok.ensures ∙ c.if-not-width_ok.false),
      total_step d.input_width k c.loop-k.bits w c.loop-k.invariant.1 c.input_width-width.ensures,
      omega arith,
    )

pub returns : goal.returns
returns c =
    let xs = list_of c.args.design in
    let d = design_of c.args.design in
    let k = c.loop-k.k in
    let e : k ≡ d.inputs = omega (arith, inputs_in xs) in (
      first_end (input_sound d) k d.inputs e c.loop-k.invariant.0,
      total_end d.input_width k d.inputs c.loop-k.bits e c.loop-k.invariant.1,
      omega arith,
    )
