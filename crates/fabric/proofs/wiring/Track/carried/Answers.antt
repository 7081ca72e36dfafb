use Rattle.std.proofs.Common.{arith}
use Rattle.fabric.specs.Fabrics.{cell_count}
use Rattle.fabric.specs.Code.{grid_of}
use Rattle.fabric.proofs.Indices.{track_below}
use Rattle.fabric.proofs.wiring.Track.carried.Goals as goal

pub bounds-self-self : goal.bounds-self-self
bounds-self-self c =
    rw c.grid-tracks.ensures (omega (
      arith,
      c.args.self.spot.moment.all,
      track_below (cell_count (grid_of c.args.self.spot.moment.wiring)) c.args.self.spot.moment.wiring.grid.tracks c.args.self.spot.cell c.from.result c.args.self.number
          c.args.self.spot.inside c.from.ensures.1 c.args.self.inside,
    ))
