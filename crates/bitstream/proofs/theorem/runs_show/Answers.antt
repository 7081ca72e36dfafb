use Rattle.bitstream.proofs.Runs.{runs_show}
use Rattle.bitstream.proofs.theorem.runs_show.Goals as goal

pub returns : goal.returns
returns c = runs_show
