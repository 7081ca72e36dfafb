use Rattle.std.proofs.Common.{◌≡◌, true, false, refl, rules, tests, arith}
use Rattle.std.proofs.lemmas.Iterator.{cases_from_any, YieldsList-from_range}
use Rattle.design.specs.Numbers.{registers_of}
use Rattle.netlist.specs.NotYet.{register_single}
use Rattle.netlist.proofs.LandedTests.{any_by, register_test, register_fails}
use Rattle.netlist.proofs.landed.wide_register.Goals as goal

pub returns : goal.returns
returns c =
    let xs = c.args.design.numbers.now in
    any_by (register_single xs) (registers_of xs) c.registers.result c.any.result c.registers.ensures
    (cases_from_any _ _ _ (λ i. register_single xs i ≡ false) (λ i. register_single xs i ≡ true) c.any.ensures.ran (YieldsList-from_range 0 c.registers.result c.registers.result refl (omega arith))
    (λ x q k. register_fails xs x (search (rules, tests)))
    (λ x q k. (search rules, register_test xs x (search (rules, tests)))))
