use Rattle.std.proofs.Common.{◌≡◌, ◌<◌, Some, None, Err, arith, rules}
use Rattle.design.specs.Designs.{register_sound, register_cells}
use Rattle.design.specs.Encodings.{list_of, design_of}
use Rattle.design.proofs.First.{first_start, first_more, first_found, first_end}
use Rattle.design.proofs.Sound.{registers_in, capped_none, capped_more, capped_end}
use Rattle.design.proofs.soundness.check_registers.Goals as goal

pub loop-k-init : goal.loop-k-init
loop-k-init c =
    let d = design_of c.args.analysis.now.design in
    (first_start (register_sound d), capped_none (register_cells d))

pub loop-k-preserved : goal.loop-k-preserved
loop-k-preserved c =
    let xs = list_of c.args.analysis.now.design in
    let d = design_of c.args.analysis.now.design in
    let k = c.loop-k.k in
    let l : k < d.registers = omega (arith, registers_in xs) in
    let is : c.register_cost.result ≡ Some c.in_ok-ok_or.field-0 = search rules in
    let cost = rw is at (c.register_cost.ensures l) in (
      first_more (register_sound d) k c.loop-k.invariant.0 cost.0,
      capped_more k (register_cells d) c.loop-k.cells c.in_ok-ok_or.field-0 c.capped-cells.result c.loop-k.invariant.1 cost.1 c.capped-cells.ensures,
    )

pub returns-in_err-ok_or : goal.returns-in_err-ok_or
returns-in_err-ok_or c =
    let xs = list_of c.args.analysis.now.design in
    let d = design_of c.args.analysis.now.design in
    let k = c.loop-k.k in
    let l : k < d.registers = omega (arith, registers_in xs) in
    let is : c.register_cost.result ≡ None = search rules in
    let err : c.from_residual.result ≡ Err k = search rules in
    rw err (first_found (register_sound d) k d.registers c.loop-k.invariant.0 (rw is at (c.register_cost.ensures l)) l)

pub returns : goal.returns
returns c =
    let xs = list_of c.args.analysis.now.design in
    let d = design_of c.args.analysis.now.design in
    let k = c.loop-k.k in
    let e : k ≡ d.registers = omega (arith, registers_in xs) in
    (first_end (register_sound d) k d.registers e c.loop-k.invariant.0, capped_end (register_cells d) k d.registers c.loop-k.cells e c.loop-k.invariant.1)
