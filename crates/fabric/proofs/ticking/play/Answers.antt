use Rattle.std.proofs.Common.{◌-◌, false, refl, ap, ◌∙◌, inl}
use lib.ListN.{length-replicate}
use Rattle.design.proofs.Filled.{get_or-filled}
use Rattle.design.specs.Designs.{bit}
use Rattle.fabric.specs.Fabrics.{final}
use Rattle.fabric.specs.Numbers.{held_in}
use Rattle.fabric.specs.Code.{grid_of, config_of, pads_of, state_of}
use Rattle.fabric.proofs.States.{front_length, dark_front, lookup_agrees}
use Rattle.fabric.proofs.ticking.play.Goals as goal

pub settle-requires : goal.settle-requires
settle-requires c = record {
  all = front_length _ c.signals-signals.result _ (length-replicate 32000 false) c.signals-signals.ensures.is c.signals-signals.ensures.small;
  next = front_length _ c.signals-signals.result _ (length-replicate 32000 false) c.signals-signals.ensures.is c.signals-signals.ensures.small;
  dark = dark_front (grid_of c.args.wiring) (c.signals-signals.result - 0) _ (λ k. get_or-filled 32000 k false);
}

pub returns-then-settle : goal.returns-then-settle
returns-then-settle c =
    let z = grid_of c.args.wiring in
    let b = config_of c.args.wiring in
    let p = pads_of c.args.wiring in
    let a = c.if-settle.ensures.1 in
    inl (
      refl,
      record {
        settles = c.if-settle.ensures.0;
        held_length = c.write_held.auto.held;
        outs_length = c.write_outputs.auto.outs;
        held_bits = λ e l. c.write_held.ensures e l ∙ ap bit (lookup_agrees z b p (state_of z c.settle.new.levels) (final z b (held_in c.args.kept.now) p) a e l);
        out_bits = λ e s t l m. c.write_outputs.ensures e s t l m ∙ ap bit (a.tracks e s t l m);
      },
    )
