use Rattle.std.proofs.Common.{◌≡◌, ℕ, List, None, sym, ap, ◌∙◌, subst, arith}
use Rattle.design.specs.declared.counts.Counts.{Counts}
use Rattle.design.specs.Numbers.{soundness_refusal, design_in}
use Rattle.design.specs.Encodings.{Counted}
use Rattle.fabric.specs.Numbers.{room_length}
use Rattle.bitstream.proofs.Refusing.{hands_on, refuses_size, refuses_reading, refuses_room, refuses_unsound, refuses_pins, refuses_nothing, pins_are}
use Rattle.bitstream.proofs.planning.accept.Goals as goal

pub returns-in_err-grid : goal.returns-in_err-grid
returns-in_err-grid c = hands_on _ _ _ c.from_residual.ensures.1 (refuses_size _ _ _ _ _ c.in_err-grid.ensures)

pub returns-in_err-design : goal.returns-in_err-design
returns-in_err-design c = hands_on _ _ _ c.from_residual-in_err-design.ensures.1 (refuses_reading _ _ _ _ c.in_ok-grid.ensures.0 _ c.in_err-design.ensures)

pub returns-then-room-room_len : goal.returns-then-room-room_len
returns-then-room-room_len c =
    let g = c.in_ok-grid.ensures in
    refuses_room _ _ _ _ g.0 c.in_ok-design.ensures.0 (λ e. c.if-room-room_len.true (e ∙ sym (c.room_len.ensures ∙ ap room_length g.1)))

pub returns-in_err-counts : goal.returns-in_err-counts
returns-in_err-counts c =
    let g = c.in_ok-grid.ensures in
    let d = c.in_ok-design.ensures in
    let r = c.if-room-room_len.false ∙ (c.room_len.ensures ∙ ap room_length g.1) in
    hands_on _ _ _ c.from_residual-in_err-counts.ensures.1 (refuses_unsound _ _ _ _ g.0 d.0 r _ (sym (ap (λ xs. soundness_refusal (design_in xs)) d.1) ∙ c.in_err-counts.ensures))

-- what `check` says, of the list that was lent
abbrev Checked : Counts → List ℕ → Type 0
Checked k xs = (soundness_refusal (design_in xs) ≡ None) × Counted (design_in xs) k

pub returns-then-pins-needed : goal.returns-then-pins-needed
returns-then-pins-needed c =
    let g = c.in_ok-grid.ensures in
    let d = c.in_ok-design.ensures in
    let r = c.if-room-room_len.false ∙ (c.room_len.ensures ∙ ap room_length g.1) in
    let k = subst (Checked c.in_ok-counts.counts) d.1 c.in_ok-counts.ensures in
    refuses_pins _ _ _ _ g.0 d.0 r k.0 _ (pins_are _ _ k.1) c.if-pins-needed.true

pub returns : goal.returns
returns c =
    let g = c.in_ok-grid.ensures in
    let d = c.in_ok-design.ensures in
    let r = c.if-room-room_len.false ∙ (c.room_len.ensures ∙ ap room_length g.1) in
    let k = subst (Checked c.in_ok-counts.counts) d.1 c.in_ok-counts.ensures in
    let n = pins_are _ _ k.1 in (
      refuses_nothing _ _ _ _ g.0 d.0 r k.0 _ n c.if-pins-needed.false,
      record { grid = g.1; list = d.1; room_fits = r; pins_fit = omega (arith, n, c.if-pins-needed.false) },
    )
