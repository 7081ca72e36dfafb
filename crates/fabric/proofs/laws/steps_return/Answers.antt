use Rattle.fabric.proofs.laws.steps_return.Goals as goal
use Rattle.fabric.proofs.Geometry.{steps_return}

pub returns : goal.returns
returns c = steps_return
