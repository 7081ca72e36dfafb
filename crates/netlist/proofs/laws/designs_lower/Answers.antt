use Rattle.netlist.proofs.General.{designs_lower}
use Rattle.netlist.proofs.laws.designs_lower.Goals as goal

pub returns : goal.returns
returns c = designs_lower
