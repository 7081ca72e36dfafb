use Rattle.std.proofs.Common.{◌∙◌}
use Rattle.bitstream.proofs.Refusing.{hands_on, words_first, words_next, put_first, put_next, planned}
use Rattle.bitstream.proofs.planning.plan.Goals as goal

pub returns-in_err-request : goal.returns-in_err-request
returns-in_err-request c = hands_on _ _ _ c.from_residual.ensures.1 (put_first _ _ _ _ _ (words_first _ _ _ _ _ c.in_err-request.ensures))

pub returns-in_err-plain_room : goal.returns-in_err-plain_room
returns-in_err-plain_room c =
    let a = c.in_ok-request.ensures in
    hands_on _ _ _ c.from_residual-in_err-plain_room.ensures.1 (put_first _ _ _ _ _ (words_next _ _ _ _ _ a.1 a.0 ∙ c.in_err-plain_room.ensures))

pub returns-in_err-netlist : goal.returns-in_err-netlist
returns-in_err-netlist c =
    let a = c.in_ok-request.ensures in
    hands_on _ _ _ c.from_residual-in_err-netlist.ensures.1 (put_next _ _ _ _ _ a.1 (words_next _ _ _ _ _ a.1 a.0 ∙ c.in_ok-plain_room.ensures) ∙ c.in_err-netlist.ensures)

pub returns : goal.returns
returns c =
    let a = c.in_ok-request.ensures in
    let p = c.laid_out.ensures in
    (put_next _ _ _ _ _ a.1 (words_next _ _ _ _ _ a.1 a.0 ∙ c.in_ok-plain_room.ensures) ∙ c.in_ok-netlist.ensures.0, planned _ _ _ _ _ a.1 _ p.0 p.1)
