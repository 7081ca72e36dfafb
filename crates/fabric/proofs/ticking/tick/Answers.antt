use Rattle.fabric.specs.Numbers.{room_length, per_cell, pads_length}
use Rattle.fabric.specs.Code.{size_of}
use Rattle.fabric.proofs.Refusing.{played, turned_away}
use Rattle.fabric.proofs.ticking.tick.Goals as goal

pub invariant_of-play : goal.invariant_of-play
unfolding room_length per_cell pads_length
invariant_of-play c = record { bits_len = c.in-Ok.ensures.bits_length; pads_len = c.in-Ok.ensures.pads_all }

pub play-requires : goal.play-requires
play-requires c = record { held = c.in-Ok.ensures.held_length; outs = c.in-Ok.ensures.outs_length }

pub returns-in-Ok : goal.returns-in-Ok
returns-in-Ok c =
    played _ (size_of c.in-Ok.grid) c.args.bits.now c.args.kept.now c.args.pads.now c.args.outs.now c.play.result c.play.new.kept c.play.new.outs
    c.in-Ok.ensures.allowed c.in-Ok.ensures.size c.play.ensures

pub returns-in-Err : goal.returns-in-Err
returns-in-Err c =
    turned_away _ c.args.bits.now c.args.kept.now c.args.pads.now c.args.outs.now c.in-Err.refusal c.in-Err.ensures
