use Rattle.bitstream.proofs.Existence.{implementations_exist}
use Rattle.bitstream.proofs.theorem.implementations_exist.Goals as goal

pub returns : goal.returns
returns c = implementations_exist
