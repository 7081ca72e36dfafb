use Rattle.std.proofs.Common.{◌≡◌, ◌<◌, sym, arith, rules}
use Rattle.design.specs.Numbers.{registers_of, design_in}
use Rattle.netlist.proofs.Totals.{total_zero, total_more}
use Rattle.netlist.proofs.Whole.{register_asks, register_place, register_room, register_step}
use Rattle.netlist.proofs.lowering.lay_registers.Goals as goal

pub loop-r-init : goal.loop-r-init
loop-r-init c = (c.requires, sym (total_zero _))

pub lay-requires : goal.lay-requires
lay-requires c =
    let h : c.loop-r.r < registers_of c.args.task.now.analysis.design.numbers.now = omega (arith, c.loop-r-test.true, c.registers-r-end.ensures) in
    register_asks _ c.args.task.now.lowerable _ _ _ h c.register-register.ensures.next c.loop-r.invariant.0

pub write-requires : goal.write-requires
write-requires c =
    let h : c.loop-r.r < registers_of c.args.task.now.analysis.design.numbers.now = omega (arith, c.loop-r-test.true, c.registers-r-end.ensures) in
    record { callable = search rules; room = omega (arith, register_room _ c.args.task.now.lowerable _ _ _ _ c.lay.ensures.built h c.loop-r.invariant.1 c.register-register.ensures.width) }

pub overflow_add-start : goal.overflow_add-start
overflow_add-start c =
    let h : c.loop-r.r < registers_of c.args.task.now.analysis.design.numbers.now = omega (arith, c.loop-r-test.true, c.registers-r-end.ensures) in
    omega (arith, register_place _ c.args.task.now.lowerable _ _ _ h c.loop-r.invariant.1 c.register-register.ensures.width)

pub loop-r-preserved : goal.loop-r-preserved
loop-r-preserved c =
    let h : c.loop-r.r < registers_of c.args.task.now.analysis.design.numbers.now = omega (arith, c.loop-r-test.true, c.registers-r-end.ensures) in (
      register_step _ c.args.task.now.lowerable _ _ _ _ _ _ _ _ _ h c.register-register.ensures.next c.loop-r.invariant.0 c.lay.ensures c.loop-r.invariant.1 c.register-register.ensures.width
          c.bus-next.ensures c.register-register.ensures.initial (c.write.ensures.wrote _ (λ k x h p. search (rules, p))),
      omega (arith, c.loop-r.invariant.1, c.register-register.ensures.width, total_more c.loop-r.r (design_in c.args.task.now.analysis.design.numbers.now).register_width),
    )

pub returns : goal.returns
unfolding design_in
returns c =
    let e : c.loop-r.r ≡ registers_of c.args.task.now.analysis.design.numbers.now = omega (arith, c.loop-r-test.false, c.loop-r.auto.r-end, c.registers-r-end.ensures) in
    rw e at c.loop-r.invariant.0
