use Rattle.player.proofs.Building.{one_more, zero_more, one_below, zero_below}
use Rattle.player.proofs.bits.with_bit.Goals as goal

pub returns-then-top : goal.returns-then-top
returns-then-top c = record {
  word = λ a e f. one_more c.args.k c.args.n c.args.top a c.requires.room c.if-top.true e f;
  still_small = one_below c.args.k c.args.n c.requires.room c.requires.small;
}

pub returns-else-top : goal.returns-else-top
returns-else-top c = record {
  word = λ a e f. zero_more c.args.k c.args.n c.args.top a c.if-top.false e f;
  still_small = zero_below c.args.k c.args.n c.requires.small;
}
