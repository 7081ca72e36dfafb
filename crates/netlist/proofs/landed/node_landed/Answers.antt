use Rattle.netlist.proofs.LandedTests.{node_test}
use Rattle.netlist.proofs.landed.node_landed.Goals as goal

pub returns : goal.returns
returns c = λ h. rw c.kind_landed.ensures (node_test _ _ _ (c.node.ensures.is h))
