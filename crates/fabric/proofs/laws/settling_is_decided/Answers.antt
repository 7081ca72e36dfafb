use Rattle.fabric.proofs.laws.settling_is_decided.Goals as goal
use Rattle.fabric.proofs.Settling.{settling_is_decided}

pub returns : goal.returns
returns c = settling_is_decided
