use Rattle.netlist.specs.Lowerings.{height}
use Rattle.netlist.proofs.lowering.+lay.Given as goal

abbrev pub decreases-lay : goal.decreases-lay
decreases-lay l = height l.node
