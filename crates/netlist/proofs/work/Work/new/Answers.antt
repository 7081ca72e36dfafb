use Rattle.std.proofs.Common.{is_some, None, Option, ap}
use Rattle.design.proofs.Filled.{get_or-filled}
use Rattle.netlist.specs.declared.bus.Bus.{Bus}
use Rattle.netlist.proofs.work.Work.new.Goals as goal

pub returns-clause-none : goal.returns-clause-none
returns-clause-none c = λ k. ap (λ (o : Option Bus). is_some o) (get_or-filled 1024 k None)
