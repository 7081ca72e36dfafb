use Rattle.std.proofs.Common.{◌≡◌, true, false, refl, rules, tests, arith}
use Rattle.std.proofs.lemmas.Iterator.{cases_from_any, YieldsList-from_range}
use Rattle.design.specs.Numbers.{inputs_of}
use Rattle.netlist.specs.NotYet.{input_single}
use Rattle.netlist.proofs.LandedTests.{any_by, input_test, input_fails}
use Rattle.netlist.proofs.landed.wide_input.Goals as goal

pub returns : goal.returns
returns c =
    let xs = c.args.design.numbers.now in
    any_by (input_single xs) (inputs_of xs) c.inputs.result c.any.result c.inputs.ensures
    (cases_from_any _ _ _ (λ i. input_single xs i ≡ false) (λ i. input_single xs i ≡ true) c.any.ensures.ran (YieldsList-from_range 0 c.inputs.result c.inputs.result refl (omega arith))
    (λ x q k. input_fails xs x (search (rules, tests)))
    (λ x q k. (search rules, input_test xs x (search (rules, tests)))))
