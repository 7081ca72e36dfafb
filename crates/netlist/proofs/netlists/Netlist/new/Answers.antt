use Rattle.std.proofs.Common.{◌∙◌, arith}
use Rattle.netlist.proofs.Working.{padded, padded_past}
use Rattle.netlist.proofs.netlists.Netlist.new.Goals as goal

pub invariant_of-result : goal.invariant_of-result
invariant_of-result c = record {
  few = omega (arith, c.len-count.ensures.fits);
  rest = λ k h. padded_past _ _ _ 1024 _ (c.copy_from_slice.ensures.after ∙ c.deref.ensures.0) c.len-count.ensures.value c.blank-cells.ensures k h;
}

pub returns-clause-cells : goal.returns-clause-cells
returns-clause-cells c = λ k. padded _ _ _ 1024 _ (c.copy_from_slice.ensures.after ∙ c.deref.ensures.0) c.len-count.ensures.value c.blank-cells.ensures k
