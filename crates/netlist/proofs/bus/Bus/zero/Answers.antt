use Rattle.design.proofs.Filled.{get_or-filled}
use Rattle.netlist.specs.declared.parts.Net.TheVariants.{Zero}
use Rattle.netlist.proofs.bus.Bus.zero.Goals as goal

pub returns-clause-nets : goal.returns-clause-nets
returns-clause-nets c = λ k. get_or-filled 64 k Zero
