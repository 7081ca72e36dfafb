use Rattle.design.specs.Designs.{word}
use Rattle.player.proofs.Building.{less_none, less_more, equal_none, equal_more}
use Rattle.player.proofs.comparing.compare.Goals as goal

pub loop-k-init : goal.loop-k-init
loop-k-init c = (less_none (word c.args.a) (word c.args.b), equal_none (word c.args.a) (word c.args.b))

pub loop-k-preserved : goal.loop-k-preserved
loop-k-preserved c =
    let a = word c.args.a in
    let b = word c.args.b in
    let k = c.loop-k.k in
    let x = c.bit-x.result in
    let y = c.bit-y.result in (
      less_more a b k x y c.loop-k.less c.bit-x.ensures c.bit-y.ensures c.loop-k.invariant.0,
      equal_more a b k x y c.loop-k.equal c.bit-x.ensures c.bit-y.ensures c.loop-k.invariant.1,
    )
