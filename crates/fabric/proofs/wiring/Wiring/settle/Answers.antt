use Rattle.std.proofs.Common.{sym, refl, ◌∙◌, arith}
use Rattle.std.specs.Prelude.{◌≡◌, Bool, true, false, Decides}
use Rattle.std.proofs.Math.Bool.{beq}
use Rattle.std.proofs.lemmas.Slice.Eq.{slice_eq-Decides}
use Rattle.std.proofs.lemmas.Bool.{false≢true}
use Rattle.fabric.specs.Fabrics.{swept}
use Rattle.fabric.specs.Numbers.{held_in}
use Rattle.fabric.specs.Code.{grid_of, config_of, pads_of}
use Rattle.fabric.proofs.States.{swept_more, settled, restless}
use Rattle.fabric.proofs.wiring.Wiring.settle.Goals as goal

beq_decides : (a b : Bool) → Decides (beq a b) (a ≡ b)
beq_decides true true = ((λ _. refl), (λ _. refl))
beq_decides true false = ((λ e. cc), (λ e. cc))
beq_decides false true = ((λ e. cc), (λ e. cc))
beq_decides false false = ((λ _. refl), (λ _. refl))

pub loop-init : goal.loop-init
unfolding swept
loop-init c = record { after = c.requires.dark; within = omega arith }

pub returns-then-eq : goal.returns-then-eq
returns-then-eq c =
    settled (grid_of c.args.self) (config_of c.args.self) (held_in c.args.held.now) (pads_of c.args.self)
    c.loop.counter c.loop.levels c.sweep.new.next (omega (arith, c.loop-test.true, c.signals-limit.ensures.is))
    c.loop.invariant.after c.sweep.ensures ((slice_eq-Decides beq_decides c.loop.levels c.sweep.new.next c.eq.result c.eq.ensures).0 c.if-eq.true)

pub returns : goal.returns
returns c = absurd (omega (arith, c.loop.invariant.within, c.loop-test.false))

pub returns-else-eq : goal.returns-else-eq
returns-else-eq c =
    restless (grid_of c.args.self) (config_of c.args.self) (held_in c.args.held.now) (pads_of c.args.self)
    c.loop.counter c.loop.levels c.sweep.new.next (omega (arith, c.loop-test.true, c.signals-limit.ensures.is))
    c.args.self.grid.some_tracks (omega (arith, c.requires.all, c.loop.auto.levels)) (omega (arith, c.requires.next, c.loop.auto.next, c.sweep.auto.next))
    c.loop.invariant.after c.sweep.ensures (λ e. false≢true (sym c.if-eq.false ∙ (slice_eq-Decides beq_decides c.loop.levels c.sweep.new.next c.eq.result c.eq.ensures).1 e))

pub loop-preserved : goal.loop-preserved
loop-preserved c = record {
  after = swept_more (grid_of c.args.self) (config_of c.args.self) (held_in c.args.held.now) (pads_of c.args.self)
      c.loop.counter c.loop.levels c.sweep.new.next c.copy_from_slice.new.self c.copy_from_slice.ensures.after
      c.loop.invariant.after c.sweep.ensures;
  within = omega (arith, c.loop-test.true);
}
