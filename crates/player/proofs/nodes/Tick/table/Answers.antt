use Rattle.std.proofs.Common.{◌<◌, length, arith, length-set}
use Rattle.design.specs.Numbers.{nodes_of}
use Rattle.design.specs.Encodings.{list_of}
use Rattle.player.proofs.Passing.{known_more}
use Rattle.player.proofs.nodes.Tick.table.Goals as goal

pub loop-n-preserved : goal.loop-n-preserved
loop-n-preserved c =
    let xs = list_of c.args.self.analysis.now.design in
    let n = c.loop-n.n in
    let l : n < nodes_of xs = omega (arith, c.nodes-nodes.ensures.count) in
    let few : n < length c.loop-n.known = omega (arith, c.nodes-nodes.ensures.few) in (
      simp length-set c.loop-n.invariant.0,
      λ sound. known_more xs _ _ c.loop-n.known n c.evaluate.result few (c.loop-n.invariant.1 sound) (c.evaluate.ensures l sound (c.loop-n.invariant.1 sound)),
    )
