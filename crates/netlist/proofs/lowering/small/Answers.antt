use Rattle.std.proofs.lemmas.Result.{err_from_is_err_and}
use Rattle.netlist.proofs.Refusing.{small_unsound, small_cells, small_none}
use Rattle.netlist.proofs.lowering.small.Goals as goal

pub returns-in_err-counts : goal.returns-in_err-counts
returns-in_err-counts c =
    let p = err_from_is_err_and c.from_residual.result c.from_residual.ensures.1 in
    rw (p.1, p.2) (small_unsound _ _ c.in_err-counts.ensures)

pub returns-then-counts-gt1024 : goal.returns-then-counts-gt1024
returns-then-counts-gt1024 c =
    let k = c.in_ok-counts.ensures in
    small_cells _ _ k.0 k.1.cells c.if-counts-gt1024.true

pub returns : goal.returns
returns c =
    let k = c.in_ok-counts.ensures in
    (small_none _ _ k.0 k.1.cells c.if-counts-gt1024.false, k.1)
