use Rattle.std.proofs.Common.{rules}
use Rattle.netlist.proofs.work.Work.ternary.Goals as goal

pub returns : goal.returns
returns c = c.push.ensures _ (λ k x h p. search (rules, p))
