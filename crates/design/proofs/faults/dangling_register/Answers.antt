use borrow.Author.Tests.{tests}
use Rattle.std.proofs.Common.{◌≡◌, true, false, rules}
use Rattle.std.proofs.lemmas.Iterator.{first_from_Range}
use Rattle.design.proofs.First.{first_from_find}
use Rattle.design.proofs.Reading.{register_named}
use Rattle.design.proofs.faults.dangling_register.Goals as goal

pub returns : goal.returns
returns c =
    let test = register_named c.args.numbers.now in
    first_from_find test _ _ _ c.registers.ensures (first_from_Range _ _ _ _ (λ k. test k ≡ false) (λ k. test k ≡ true) c.find.ensures.ran
    (λ k q h. search (rules, tests)) (λ k q h. search (rules, tests)))
