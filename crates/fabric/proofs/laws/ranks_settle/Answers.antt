use Rattle.fabric.proofs.laws.ranks_settle.Goals as goal
use Rattle.fabric.proofs.Settling.{ranks_settle}

pub returns : goal.returns
returns c = ranks_settle
