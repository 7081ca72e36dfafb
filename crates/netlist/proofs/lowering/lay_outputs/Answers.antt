use Rattle.std.proofs.Common.{◌≡◌, ◌<◌, sym, arith, rules}
use Rattle.design.specs.Designs.{output_width}
use Rattle.design.specs.Numbers.{outputs_of, design_in}
use Rattle.netlist.proofs.Totals.{total_zero, total_more}
use Rattle.netlist.proofs.Whole.{output_asks, output_wide, output_row, output_places, output_step}
use Rattle.netlist.proofs.lowering.lay_outputs.Goals as goal

pub loop-o-init : goal.loop-o-init
loop-o-init c = (c.requires, sym (total_zero _))

pub lay-requires : goal.lay-requires
lay-requires c =
    let h : c.loop-o.o < outputs_of c.args.task.now.analysis.design.numbers.now = omega (arith, c.loop-o-test.true, c.outputs-o-end.ensures) in
    output_asks _ c.args.task.now.lowerable _ _ _ h c.output-node.ensures.node c.loop-o.invariant.0

pub overflow_cast-first : goal.overflow_cast-first
overflow_cast-first c =
    let h : c.loop-o.o < outputs_of c.args.task.now.analysis.design.numbers.now = omega (arith, c.loop-o-test.true, c.outputs-o-end.ensures) in
    let m = output_wide _ c.args.task.now.lowerable _ _ _ h c.output-node.ensures.node c.width-width.ensures in
    omega (arith, (output_row _ c.args.task.now.lowerable _ _ _ _ _ h c.output-node.ensures.node c.loop-o.invariant.0 c.lay.ensures m).room)

pub push-requires : goal.push-requires
push-requires c =
    let h : c.loop-o.o < outputs_of c.args.task.now.analysis.design.numbers.now = omega (arith, c.loop-o-test.true, c.outputs-o-end.ensures) in
    let m = output_wide _ c.args.task.now.lowerable _ _ _ h c.output-node.ensures.node c.width-width.ensures in
    record { callable = search rules; room = (output_row _ c.args.task.now.lowerable _ _ _ _ _ h c.output-node.ensures.node c.loop-o.invariant.0 c.lay.ensures m).room }

pub show-requires : goal.show-requires
show-requires c =
    let h : c.loop-o.o < outputs_of c.args.task.now.analysis.design.numbers.now = omega (arith, c.loop-o-test.true, c.outputs-o-end.ensures) in
    let m = output_wide _ c.args.task.now.lowerable _ _ _ h c.output-node.ensures.node c.width-width.ensures in
    record {
      places = output_places _ c.args.task.now.lowerable _ _ _ _ _ h c.output-node.ensures.node c.loop-o.invariant.0 c.lay.ensures m _ c.loop-o.invariant.1;
      cells = omega (arith, (output_row _ c.args.task.now.lowerable _ _ _ _ _ h c.output-node.ensures.node c.loop-o.invariant.0 c.lay.ensures m).room, c.len-first.ensures.value);
    }

pub overflow_add-start : goal.overflow_add-start
overflow_add-start c =
    let h : c.loop-o.o < outputs_of c.args.task.now.analysis.design.numbers.now = omega (arith, c.loop-o-test.true, c.outputs-o-end.ensures) in
    let m = output_wide _ c.args.task.now.lowerable _ _ _ h c.output-node.ensures.node c.width-width.ensures in
    omega (arith, output_places _ c.args.task.now.lowerable _ _ _ _ _ h c.output-node.ensures.node c.loop-o.invariant.0 c.lay.ensures m _ c.loop-o.invariant.1)

pub loop-o-preserved : goal.loop-o-preserved
loop-o-preserved c =
    let h : c.loop-o.o < outputs_of c.args.task.now.analysis.design.numbers.now = omega (arith, c.loop-o-test.true, c.outputs-o-end.ensures) in
    let m = output_wide _ c.args.task.now.lowerable _ _ _ h c.output-node.ensures.node c.width-width.ensures in
    let s = c.show.ensures in (
      output_step _ c.args.task.now.lowerable _ _ _ _ _ h c.output-node.ensures.node c.loop-o.invariant.0 c.lay.ensures m _ _ _ _ _ c.loop-o.invariant.1 (c.push.ensures _ (λ k x h p. search (rules, p)))
          c.len-first.ensures.value s.cells s.buses s.old s.new,
      omega (arith, c.loop-o.invariant.1, m, total_more c.loop-o.o (output_width (design_in c.args.task.now.analysis.design.numbers.now))),
    )

pub returns : goal.returns
unfolding design_in
returns c =
    let e : c.loop-o.o ≡ outputs_of c.args.task.now.analysis.design.numbers.now = omega (arith, c.loop-o-test.false, c.loop-o.auto.o-end, c.outputs-o-end.ensures) in
    rw e at c.loop-o.invariant.0
