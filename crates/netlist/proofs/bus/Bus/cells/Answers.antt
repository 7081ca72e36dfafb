use Rattle.std.proofs.Common.{rules}
use Rattle.netlist.proofs.bus.Bus.cells.Goals as goal

pub returns : goal.returns
returns c = λ k h. let p = c.from_fn.ensures k h in search (rules, p)
