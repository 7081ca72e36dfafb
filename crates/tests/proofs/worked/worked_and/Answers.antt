use Rattle.tests.proofs.worked.worked_and.Goals as goal
use Rattle.tests.proofs.Computed.{worked_and}

pub returns : goal.returns
returns c = worked_and
