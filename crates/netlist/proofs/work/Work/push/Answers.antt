use Rattle.std.proofs.Common.{◌≡◌, refl, arith}
use Rattle.netlist.proofs.Working.{same_notes, appended_more, row_nets}
use Rattle.netlist.proofs.work.Work.push.Goals as goal

pub loop-k-init : goal.loop-k-init
loop-k-init g c = (omega arith, same_notes _, λ row is. record { same = λ m h. refl; added = λ k h. absurd (omega arith) })

pub loop-k-preserved : goal.loop-k-preserved
loop-k-preserved g c =
    let i = c.loop-k.invariant in
    (omega (arith, c.push.ensures.len, i.0), record { buses = i.1.buses; outputs = i.1.outputs }, λ row is. appended_more c.args.self.now.cells.items c.loop-k.self.cells.items c.push.new.self.items c.loop-k.k row c.cell.result c.push.ensures.items i.0 (is c.loop-k.k c.cell.result (omega arith) c.cell.ensures) (i.2 row is))

pub returns : goal.returns
returns g c = λ row is.
    let i = c.loop-k.invariant in
    let e : c.loop-k.k ≡ c.args.width = omega arith in
    record {
      cells = rw e at (i.2 row is);
      count = rw e at i.0;
      nets = row_nets _ c.args.width _ _ c.len-start.ensures.value c.requires.room c.cells.ensures;
      notes = i.1;
    }
