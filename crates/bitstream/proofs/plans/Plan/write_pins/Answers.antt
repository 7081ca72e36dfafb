use Rattle.std.proofs.Common.{arith}
use Rattle.bitstream.proofs.Pins.{pins_more}
use Rattle.bitstream.proofs.plans.Plan.write_pins.Goals as goal

pub loop-m-preserved : goal.loop-m-preserved
loop-m-preserved c =
    pins_more c.args.self.now c.loop-m.m _ _ c.pin-pin.result _ _ _ (omega arith) (omega arith) c.pin-pin.ensures c.from.ensures.0 c.copy_from_slice.ensures.after c.loop-m.invariant
