use Rattle.std.proofs.Common.{sym, ◌∙◌}
use Rattle.design.specs.Encodings.{list_of}
use Rattle.bitstream.proofs.Refusing.{hands_on, lower_is, refuses_lowering, refuses_rows, landed_by_now}
use Rattle.bitstream.proofs.plans.Request.lowered.Goals as goal

pub returns-in_err-netlist : goal.returns-in_err-netlist
returns-in_err-netlist c =
    let r = c.args.self in
    hands_on _ _ _ c.from_residual.ensures.1 (refuses_lowering _ _ _ (sym (lower_is r.grid (list_of r.design) c.requires r.sound) ∙ c.in_err-netlist.ensures))

pub returns-then-self-ne1 : goal.returns-then-self-ne1
returns-then-self-ne1 c =
    let r = c.args.self in
    refuses_rows _ _ _ (sym (lower_is r.grid (list_of r.design) c.requires r.sound) ∙ c.in_ok-netlist.ensures.0) c.if-self-ne1.true c.nodes.ensures.count

pub returns : goal.returns
returns c =
    let r = c.args.self in
    (landed_by_now _ _ (sym (lower_is r.grid (list_of r.design) c.requires r.sound) ∙ c.in_ok-netlist.ensures.0) c.if-self-ne1.false, c.in_ok-netlist.ensures.1)
