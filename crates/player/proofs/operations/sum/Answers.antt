use Rattle.std.proofs.Common.{arith}
use Rattle.design.specs.Designs.{word, carry}
use Rattle.player.specs.Operations.{sum_word}
use Rattle.player.proofs.Building.{built_none, built_below, carry_none, carry_more, sum_bit}
use Rattle.player.proofs.operations.sum.Goals as goal

pub loop-k-init : goal.loop-k-init
loop-k-init c = (built_none (sum_word (word c.args.a) (word c.args.b)), carry_none (word c.args.a) (word c.args.b))

pub with_bit-n-requires : goal.with_bit-n-requires
with_bit-n-requires c =
    record { small = built_below c.loop-k.k c.loop-k.n (sum_word (word c.args.a) (word c.args.b)) c.loop-k.invariant.0; room = omega arith }

pub loop-k-preserved : goal.loop-k-preserved
loop-k-preserved c =
    let a = word c.args.a in
    let b = word c.args.b in
    let k = c.loop-k.k in
    let x = c.bit-x.result in
    let y = c.bit-y.result in (
      c.with_bit-n.ensures.word (sum_word a b) c.loop-k.invariant.0
          (sum_bit x y c.loop-k.carry (a k) (b k) (carry a b k) c.bit-x.ensures c.bit-y.ensures c.loop-k.invariant.1),
      carry_more a b k x y c.loop-k.carry c.bit-x.ensures c.bit-y.ensures c.loop-k.invariant.1,
    )
