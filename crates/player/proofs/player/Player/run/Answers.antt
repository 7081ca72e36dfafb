use Rattle.std.proofs.Common.{◌≡◌, length, None, vec_items, refl, ◌∙◌, subst, arith}
use Rattle.design.specs.Designs.{Design}
use Rattle.design.specs.Numbers.{soundness_refusal}
use Rattle.player.specs.Players.{played, held}
use Rattle.player.specs.Plays.{Ticks}
use Rattle.player.proofs.Streaming.{playing_start, playing_more, playing_end}
use Rattle.player.proofs.Failing.{no_memory, handed_on}
use Rattle.player.proofs.player.Player.run.Goals as goal

pub loop-inputs-init : goal.loop-inputs-init
loop-inputs-init c = (refl, λ none h. playing_start vec_items _ _ _ _ h c.new-shown.ensures.items)

pub loop-inputs-preserved : goal.loop-inputs-preserved
loop-inputs-preserved c =
    let before = c.loop-inputs.self in
    let after = c.tick.new.self in
    let outs = c.in_ok-tick.field-0 in
    let ticked = c.in_ok-tick.ensures in
    let P : Design → Type 0 = λ d. soundness_refusal d ≡ None → Ticks d c.as_slice.result.now (held before) (held after) (vec_items outs) in
    let same : played after ≡ played before = ticked.same in (
      same ∙ c.loop-inputs.invariant.0,
      λ none h. playing_more vec_items (played c.args.self.now) c.args.stream.now c.loop-inputs.inputs-index c.inputs-item.result
          c.as_slice.result.now (held before) (held after) outs (vec_items c.loop-inputs.shown) (vec_items c.push.new.self)
          c.loop-inputs-test.true c.inputs-item.is c.as_slice.ensures.value
          (subst P c.loop-inputs.invariant.0 ticked.cases none) c.in_ok-push.ensures.items (c.loop-inputs.invariant.1 none h),
    )

pub returns : goal.returns
returns c = λ none h.
    let e : c.loop-inputs.inputs-index ≡ length c.args.stream.now = omega arith in
    playing_end _ _ _ _ _ _ e (c.loop-inputs.invariant.1 none h)

pub returns-in_err-tick : goal.returns-in_err-tick
returns-in_err-tick c = handed_on _ c.from_residual.result c.in_err-tick.field-0.0 c.from_residual.ensures.1 c.in_err-tick.ensures.cases.0

pub returns-in_err-push : goal.returns-in_err-push
returns-in_err-push c = no_memory _ c.from_residual-in_err-push.result c.from_residual-in_err-push.ensures.1
