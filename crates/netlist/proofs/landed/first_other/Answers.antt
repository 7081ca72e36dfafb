use Rattle.std.proofs.Common.{◌≡◌, ◌<◌, true, false, rules, tests}
use Rattle.std.proofs.lemmas.Iterator.{first_from_Range}
use Rattle.design.specs.Numbers.{nodes_of}
use Rattle.netlist.specs.NotYet.{node_landed}
use Rattle.netlist.proofs.LandedTests.{first_by}
use Rattle.netlist.proofs.landed.first_other.Goals as goal

pub returns : goal.returns
returns c =
    let xs = c.args.design.numbers.now in
    first_by (node_landed xs) (nodes_of xs) c.nodes.result c.find.result c.nodes.ensures.count
    (first_from_Range _ _ _ _ (λ n. n < nodes_of xs → node_landed xs n ≡ false) (λ n. n < nodes_of xs → node_landed xs n ≡ true) c.find.ensures.ran
    (λ x q k. search (rules, tests))
    (λ x q k. search (rules, tests)))
