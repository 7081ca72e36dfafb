use Rattle.std.proofs.Common.{◌≡◌, ◌<◌, sym, ◌∙◌, arith, rules}
use Rattle.std.proofs.lemmas.Bool.{not-true, not-false}
use Rattle.design.specs.Designs.{output_sound, output_width, output_cells}
use Rattle.design.specs.Encodings.{list_of, design_of}
use Rattle.design.proofs.First.{first_start, first_more, first_found, first_end}
use Rattle.design.proofs.Sound.{outputs_in, output_test, output_wide, output_count, total_none, total_step, total_end, capped_none, capped_more, capped_end}
use Rattle.design.proofs.soundness.check_outputs.Goals as goal

pub loop-k-init : goal.loop-k-init
loop-k-init c =
    let d = design_of c.args.analysis.now.design in
    (first_start (output_sound d), sym (total_none (output_width d)), omega arith, capped_none (output_cells d))

pub returns-then-not-summary : goal.returns-then-not-summary
returns-then-not-summary c =
    let xs = list_of c.args.analysis.now.design in
    let d = design_of c.args.analysis.now.design in
    let k = c.loop-k.k in
    let s = c.output_summary-summary.result in
    let l : k < d.outputs = omega (arith, outputs_in xs) in
    first_found (output_sound d) k d.outputs c.loop-k.invariant.0
    (sym (output_test d k s (c.output_summary-summary.ensures l)) ∙ not-true s.formed c.if-not-summary.true) l

pub loop-k-preserved : goal.loop-k-preserved
loop-k-preserved c =
    let xs = list_of c.args.analysis.now.design in
    let d = design_of c.args.analysis.now.design in
    let k = c.loop-k.k in
    let s = c.output_summary-summary.result in
    let l : k < d.outputs = omega (arith, outputs_in xs) in
    let sum = c.output_summary-summary.ensures l in
    let sound = sym (output_test d k s sum) ∙ not-false s.formed c.if-not-summary.false in (
      first_more (output_sound d) k c.loop-k.invariant.0 sound,
      total_step (output_width d) k c.loop-k.bits s.width c.loop-k.invariant.1 (output_wide d k s sum sound),
      search rules,
      capped_more k (output_cells d) c.loop-k.cells c.capped.result c.capped-cells.result c.loop-k.invariant.3
          (output_count d k c.capped.result s sum sound c.capped.ensures) c.capped-cells.ensures,
    )

pub returns : goal.returns
returns c =
    let xs = list_of c.args.analysis.now.design in
    let d = design_of c.args.analysis.now.design in
    let k = c.loop-k.k in
    let e : k ≡ d.outputs = omega (arith, outputs_in xs) in (
      first_end (output_sound d) k d.outputs e c.loop-k.invariant.0,
      total_end (output_width d) k d.outputs c.loop-k.bits e c.loop-k.invariant.1,
      capped_end (output_cells d) k d.outputs c.loop-k.cells e c.loop-k.invariant.3,
    )
