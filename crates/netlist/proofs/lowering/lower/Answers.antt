use Rattle.std.proofs.Common.{◌∙◌}
use Rattle.std.proofs.lemmas.Result.{err_from_is_err_and}
use Rattle.design.proofs.Reading.{not_refused}
use Rattle.netlist.proofs.Landing.{landed_lowerable}
use Rattle.netlist.proofs.Refusing.{lower_small, lower_passes}
use Rattle.netlist.proofs.lowering.lower.Goals as goal

pub returns-in_err-small : goal.returns-in_err-small
returns-in_err-small c =
    let p = err_from_is_err_and c.from_residual.result c.from_residual.ensures.1 in
    rw (p.1, p.2) (lower_small _ _ c.in_err-small.ensures)

pub returns-in_err-landed : goal.returns-in_err-landed
returns-in_err-landed c =
    let p = err_from_is_err_and c.from_residual-in_err-landed.result c.from_residual-in_err-landed.ensures.1 in
    rw (p.1, p.2) (lower_passes _ c.in_ok-small.ensures.0 ∙ c.in_err-landed.ensures)

pub of_bits-requires : goal.of_bits-requires
of_bits-requires c = record { lowerable = landed_lowerable _ (not_refused _ c.args.design.readable) c.in_ok-small.ensures.0 c.in_ok-landed.ensures; landed = c.in_ok-landed.ensures }

pub returns : goal.returns
returns c = (lower_passes _ c.in_ok-small.ensures.0 ∙ c.in_ok-landed.ensures, rw c.of_bits.ensures at c.whole.ensures)
