use Rattle.std.proofs.Common.{◌≢◌, below_more, get_or-set_other, get_or-set_same, ◌<◌, length, arith}
use Rattle.bitstream.proofs.plans.Plan.write_cell.Goals as goal

pub loop-j-preserved : goal.loop-j-preserved
loop-j-preserved c =
    below_more _ _
    (λ k h. let ne : k ≢ c.loop-j.j = omega arith in rw get_or-set_other (c.loop-j.invariant k h))
    (let lt : c.loop-j.j < length c.loop-j.numbers = omega arith in rw get_or-set_same c.number.ensures)
