use Rattle.std.proofs.Common.{◌+◌, sym, refl}
use Rattle.fabric.specs.Fabrics.{neighbour}
use Rattle.fabric.specs.Code.{size_of}
use Rattle.fabric.specs.declared.parts.Side.TheVariants.{Right, Below}
use Rattle.fabric.proofs.Indices.{stepped}
use Rattle.fabric.proofs.grid.Grid.neighbour.Goals as goal

pub returns-in-Right : goal.returns-in-Right
unfolding neighbour
returns-in-Right c =
    let o = sym c.if-at_edge.ensures in
    let p = stepped (size_of c.args.self) c.args.cell (c.args.cell + 1) c.args.side Right c.in-Right.is refl c.requires o in
    (o, p.0, p.1)

pub returns-in-Below : goal.returns-in-Below
unfolding neighbour
returns-in-Below c =
    let o = sym c.if-at_edge.ensures in
    let p = stepped (size_of c.args.self) c.args.cell (c.args.cell + c.args.self.columns) c.args.side Below c.in-Below.is refl c.requires o in
    (o, p.0, p.1)
