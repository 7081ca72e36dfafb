use Rattle.std.proofs.Common.{refl}
use Rattle.design.proofs.Sound.{sound_from_none}
use Rattle.bitstream.proofs.Putting.{puts}
use Rattle.bitstream.proofs.carry_out.Goals as goal

pub returns-in-Ok : goal.returns-in-Ok
returns-in-Ok c = rw c.in-Ok.is (λ z xs h.
    (refl, sound_from_none _ h.sound, puts _ c.in-Ok.plan h.plans _ c.write_room.ensures _ _ c.write_pins.ensures _ _ h.grid c.write_room.auto.room c.write_pins.auto.pins))
