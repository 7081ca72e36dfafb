use Rattle.std.proofs.lemmas.List.{get_or-replicate}
use Rattle.netlist.specs.declared.parts.Net.TheVariants.{Zero}
use Rattle.netlist.proofs.bus.Bus.all.Goals as goal

pub returns : goal.returns
returns c = λ k h. get_or-replicate 64 k c.args.net Zero h
