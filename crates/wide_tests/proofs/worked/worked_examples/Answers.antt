use Rattle.wide_tests.proofs.worked.worked_examples.Goals as goal
use Rattle.wide_tests.proofs.Computed.{worked_examples}

pub returns : goal.returns
returns c = worked_examples
