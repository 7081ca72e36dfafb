use Rattle.std.proofs.Common.{sym, ◌∙◌}
use Rattle.design.proofs.Exprs.{node_ok_some, node_ok_none}
use Rattle.design.proofs.faults.node_ok.Goals as goal

pub returns-in-Some : goal.returns-in-Some
returns-in-Some c = c.names_below.ensures ∙ node_ok_some c.args.numbers.now c.args.n c.in-Some.node (sym c.node.ensures ∙ c.in-Some.is)

pub returns-in-None : goal.returns-in-None
returns-in-None c = node_ok_none c.args.numbers.now c.args.n (sym c.node.ensures ∙ c.in-None.is)
