use Rattle.bitstream.proofs.theorem.layouts_implement.Goals as goal
use Rattle.bitstream.proofs.Implementation.{layouts_implement}

pub returns : goal.returns
returns c = layouts_implement
