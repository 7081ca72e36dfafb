use Rattle.design.specs.Encodings.{design_of}
use Rattle.bitstream.proofs.Refusing.{refuses_cells, refuses_tracks, room_suffices}
use Rattle.bitstream.proofs.plans.Request.plain_room.Goals as goal

pub returns-then-cells : goal.returns-then-cells
returns-then-cells c = let r = c.args.self in refuses_cells r.grid (design_of r.design) r.counts r.counted _ c.cells.ensures c.if-cells.true

pub returns-then-tracks-self : goal.returns-then-tracks-self
returns-then-tracks-self c = let r = c.args.self in refuses_tracks r.grid (design_of r.design) r.counts r.counted _ c.cells.ensures c.if-cells.false c.if-tracks-self.true

pub returns : goal.returns
returns c = let r = c.args.self in room_suffices r.grid (design_of r.design) r.counts r.counted _ c.cells.ensures c.if-cells.false c.if-tracks-self.false
