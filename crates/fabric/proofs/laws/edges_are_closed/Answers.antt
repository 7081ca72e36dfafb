use Rattle.fabric.proofs.laws.edges_are_closed.Goals as goal
use Rattle.fabric.proofs.Geometry.{edges_are_closed}

pub returns : goal.returns
returns c = edges_are_closed
