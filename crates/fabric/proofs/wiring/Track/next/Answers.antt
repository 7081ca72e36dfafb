use Rattle.fabric.specs.Code.{grid_of}
use Rattle.fabric.proofs.Indices.{drive_inside}
use Rattle.fabric.proofs.wiring.Track.next.Goals as goal

pub word-requires : goal.word-requires
word-requires c = rw (c.drive_place-place.ensures, c.grid.ensures) (drive_inside (grid_of c.args.self.spot.moment.wiring) c.args.self.side c.args.self.number c.args.self.inside)
