use Rattle.std.proofs.Common.{sym, ◌∙◌}
use Rattle.design.proofs.Reading.{not_refused}
use Rattle.design.proofs.Exprs.{operands_below, node_there, some_or}
use Rattle.design.proofs.encoded.Encoded.node.Goals as goal

pub returns-clause-is : goal.returns-clause-is
returns-clause-is c l =
    let ok = not_refused c.args.self.numbers.now c.args.self.readable in
    rw c.unwrap_or.ensures (sym c.node.ensures ∙ some_or _ _ (λ e. node_there _ ok c.args.n l (sym c.node.ensures ∙ e)))

pub returns-clause-below : goal.returns-clause-below
returns-clause-below c l =
    let ok = not_refused c.args.self.numbers.now c.args.self.readable in
    rw c.unwrap_or.ensures (operands_below _ ok c.args.n l _ (sym c.node.ensures ∙ some_or _ _ (λ e. node_there _ ok c.args.n l (sym c.node.ensures ∙ e))))
