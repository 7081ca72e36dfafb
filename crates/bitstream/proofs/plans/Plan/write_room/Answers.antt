use Rattle.std.proofs.Common.{◌+◌, ◌*◌, ◌≤◌, length, ◌∙◌, arith, rules}
use Rattle.bitstream.proofs.Placing.{part_within, part_small, cell_step}
use Rattle.bitstream.proofs.plans.Plan.write_room.Goals as goal

pub loop-at-init : goal.loop-at-init
loop-at-init c = λ b j h l. absurd (omega arith)

pub overflow_mul-start : goal.overflow_mul-start
overflow_mul-start c = let s = part_small c.args.self.now _ _ _ c.loop-at-test.true c.per_cell-size.ensures c.cells-at-end.ensures in record { fits = omega (arith, s) }

pub overflow_add-start : goal.overflow_add-start
overflow_add-start c = let s = part_small c.args.self.now _ _ _ c.loop-at-test.true c.per_cell-size.ensures c.cells-at-end.ensures in record { fits = omega (arith, s) }

pub offset_bounds-room-start : goal.offset_bounds-room-start
offset_bounds-room-start c = let s = part_small c.args.self.now _ _ _ c.loop-at-test.true c.per_cell-size.ensures c.cells-at-end.ensures in record { fits = omega (arith, s) }

pub slice_bounds-write_cell-end : goal.slice_bounds-write_cell-end
slice_bounds-write_cell-end c =
    let s = part_within _ _ _ _ c.loop-at-test.true c.per_cell-size.ensures c.cells-at-end.ensures in
    let l : c.loop-at.at * c.per_cell-size.result + c.per_cell-size.result ≤ length c.loop-at.room = omega (arith, s, c.loop-at.auto.room, c.requires) in
    search rules

pub loop-at-preserved : goal.loop-at-preserved
loop-at-preserved c =
    cell_step c.args.self.now _ _ _ _ _ c.loop-at-test.true c.per_cell-size.ensures c.cells-at-end.ensures (c.loop-at.auto.room ∙ c.requires) c.write_cell.auto.numbers c.loop-at.invariant c.write_cell.ensures

pub returns : goal.returns
returns c = λ b j h l. c.loop-at.invariant b j (omega (arith, c.loop-at-test.false, c.cells-at-end.ensures)) l
