use Rattle.std.proofs.Common.{◌<◌, rules}
use Rattle.netlist.specs.declared.parts.Net.TheVariants.{Zero}
use Rattle.netlist.proofs.Buses.{made}
use Rattle.netlist.proofs.bus.Bus.from_fn.Goals as goal

pub returns : goal.returns
returns g c = λ k h. made _ _ (λ i y. i < 64 → goal.F-post g c.args.net i y) (λ i y q called. (search rules, λ low. search rules)) c.from_fn.result Zero 64 c.from_fn.ensures.items.each k h h
