use Rattle.fabric.specs.Numbers.{pads_length}
use Rattle.fabric.specs.Code.{grid_of}
use Rattle.fabric.proofs.Indices.{pad_inside}
use Rattle.fabric.proofs.wiring.Track.pad.Goals as goal

pub bounds-self-pad_place : goal.bounds-self-pad_place
unfolding pads_length
bounds-self-pad_place c =
    rw (c.pad_place.ensures, c.grid.ensures, c.args.self.spot.moment.wiring.pads_len)
    (pad_inside (grid_of c.args.self.spot.moment.wiring) c.args.self.spot.cell c.args.self.side c.args.self.number c.args.self.spot.inside c.args.self.inside)
