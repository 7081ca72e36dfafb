use Rattle.std.proofs.Common.{◌≢◌, refl, arith, below_more, get_or-set_other, get_or-set_same, ◌∙◌}
use Rattle.netlist.proofs.Working.{over_items}
use Rattle.netlist.proofs.work.Work.write.Goals as goal

pub loop-k-preserved : goal.loop-k-preserved
loop-k-preserved g c = λ row is. below_more _ _
    (λ j h. let ne : j ≢ c.loop-k.k = omega arith in get_or-set_other c.loop-k.places _ j _ _ ne ∙ c.loop-k.invariant row is j h)
    (get_or-set_same c.loop-k.places _ _ _ (omega arith) ∙ is _ _ (omega arith) c.cell.ensures)

pub returns-clause-wrote : goal.returns-clause-wrote
returns-clause-wrote g c = λ row is.
    let o = over_items c.args.self.now.cells _ _ _ _ _ row c.deref_mut.ensures.value (omega arith) c.requires.room (omega arith) (λ k h. c.loop-k.invariant row is k (omega arith)) in
    record { cells = o.1; count = o.0; notes = record { buses = refl; outputs = refl } }
