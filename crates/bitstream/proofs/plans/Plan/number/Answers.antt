use Rattle.std.proofs.Common.{◌+◌, ◌≤◌, refl, arith}
use Rattle.bitstream.proofs.Placing.{net_exists, table_number, input_number, drive_number}
use Rattle.bitstream.proofs.plans.Plan.number.Goals as goal

pub returns-in-0-to-15 : goal.returns-in-0-to-15
returns-in-0-to-15 c = table_number _ _ _ _ _ _ _ (omega arith) (rw c.cell-cell.ensures.is refl)

pub returns-in-16-to-19 : goal.returns-in-16-to-19
returns-in-16-to-19 c =
    let p = c.args.self.now in
    let room : p.routing.inputs + p.routing.placement.count ≤ 64 = omega arith in
    input_number _ _ _ _ _ _ _ _ (omega arith) (omega arith) room (λ k h. net_exists _ _ _ (λ j. p.nets c.args.at k j h)) (rw c.cell-cell.ensures.is at c.source.ensures.is) c.from-in-16-to-19.ensures.0

pub returns-in_default : goal.returns-in_default
returns-in_default c =
    let p = c.args.self.now in
    let room : p.routing.inputs + p.routing.placement.count ≤ 64 = omega arith in
    drive_number _ _ _ _ _ _ _ _ _ (omega arith) room c.carried.ensures.is c.carried.ensures.exists c.source-in_default.ensures.is c.from-in_default.ensures.0
