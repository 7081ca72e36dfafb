use Rattle.std.proofs.Common.{◌<◌, length, sym, subst, arith, length-set}
use Rattle.design.specs.Designs.{Expr}
use Rattle.design.specs.Numbers.{nodes_of, expr_at, design_in}
use Rattle.design.specs.Summaries.{Summarizes}
use Rattle.design.proofs.Reading.{not_refused}
use Rattle.design.proofs.Exprs.{expr_at_node}
use Rattle.design.proofs.Passing.{known_more}
use Rattle.design.proofs.pass.pass.Goals as goal

pub loop-n-preserved : goal.loop-n-preserved
loop-n-preserved c =
    let xs = c.args.design.numbers.now in
    let e = expr_at xs (nodes_of xs) in
    let n = c.loop-n.n in
    let s = c.summarize.result in
    let l : n < nodes_of xs = omega (arith, c.nodes-nodes.ensures.count) in
    let few : n < length c.loop-n.known = omega (arith, c.nodes-nodes.ensures.few) in
    let is = expr_at_node xs (not_refused xs c.args.design.readable) n l c.node.result (c.node.ensures.is l) in
    let P : Expr → Type 0 = λ x. Summarizes (design_in xs) x s in
    let here = subst P (sym is) (c.summarize.ensures e n (omega arith) (c.node.ensures.below l) c.loop-n.invariant.1) in
    (simp length-set c.loop-n.invariant.0, known_more (design_in xs) e n c.loop-n.known s few c.loop-n.invariant.1 here)
