use Rattle.std.proofs.Common.{◌∙◌}
use Rattle.std.proofs.lemmas.Result.{err_from_is_err_and}
use Rattle.fabric.specs.Code.{size_of}
use Rattle.fabric.proofs.Refusing.{size_refused, bits_refused, held_refused, pads_refused, outs_refused, none_refused}
use Rattle.fabric.proofs.ticking.checked.Goals as goal

pub returns-in_err-grid : goal.returns-in_err-grid
returns-in_err-grid c =
    let p = err_from_is_err_and c.from_residual.result c.from_residual.ensures.1 in
    rw (p.1, p.2) (size_refused _ c.args.bits.now c.args.held.now c.args.pads.now c.args.outs.now _ c.in_err-grid.ensures)

pub returns-then-bits-room_len : goal.returns-then-bits-room_len
returns-then-bits-room_len c =
    bits_refused _ (size_of c.in_ok-grid.grid) c.args.bits.now c.args.held.now c.args.pads.now c.args.outs.now c.in_ok-grid.ensures.0 c.in_ok-grid.ensures.1
    c.room_len.result c.room_len.ensures c.if-bits-room_len.true

pub returns-then-held-cells : goal.returns-then-held-cells
returns-then-held-cells c =
    held_refused _ (size_of c.in_ok-grid.grid) c.args.bits.now c.args.held.now c.args.pads.now c.args.outs.now c.in_ok-grid.ensures.0 c.in_ok-grid.ensures.1
    c.room_len.result c.room_len.ensures c.if-bits-room_len.false
    c.cells.result c.cells.ensures c.if-held-cells.true

pub returns-then-pads-pads_len : goal.returns-then-pads-pads_len
returns-then-pads-pads_len c =
    pads_refused _ (size_of c.in_ok-grid.grid) c.args.bits.now c.args.held.now c.args.pads.now c.args.outs.now c.in_ok-grid.ensures.0 c.in_ok-grid.ensures.1
    c.room_len.result c.room_len.ensures c.if-bits-room_len.false
    c.cells.result c.cells.ensures c.if-held-cells.false
    c.pads_len.result c.pads_len.ensures c.if-pads-pads_len.true

pub returns-then-outs-pads_len : goal.returns-then-outs-pads_len
returns-then-outs-pads_len c =
    outs_refused _ (size_of c.in_ok-grid.grid) c.args.bits.now c.args.held.now c.args.pads.now c.args.outs.now c.in_ok-grid.ensures.0 c.in_ok-grid.ensures.1
    c.room_len.result c.room_len.ensures c.if-bits-room_len.false
    c.cells.result c.cells.ensures c.if-held-cells.false
    c.pads_len.result c.pads_len.ensures c.if-pads-pads_len.false
    c.pads_len-2.result c.pads_len-2.ensures c.if-outs-pads_len.true

pub returns : goal.returns
returns c = record {
  allowed = none_refused _ (size_of c.in_ok-grid.grid) c.args.bits.now c.args.held.now c.args.pads.now c.args.outs.now c.in_ok-grid.ensures.0 c.in_ok-grid.ensures.1
      c.room_len.result c.room_len.ensures c.if-bits-room_len.false
      c.cells.result c.cells.ensures c.if-held-cells.false
      c.pads_len.result c.pads_len.ensures c.if-pads-pads_len.false
      c.pads_len-2.result c.pads_len-2.ensures c.if-outs-pads_len.false;
  size = c.in_ok-grid.ensures.1;
  bits_length = c.if-bits-room_len.false ∙ c.room_len.ensures;
  held_length = c.if-held-cells.false ∙ c.cells.ensures;
  pads_all = c.if-pads-pads_len.false ∙ c.pads_len.ensures;
  outs_length = c.if-outs-pads_len.false ∙ c.pads_len-2.ensures;
}
