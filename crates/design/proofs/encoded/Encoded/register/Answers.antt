use Rattle.std.proofs.Common.{ap, arith}
use Rattle.design.specs.Designs.{word}
use Rattle.design.specs.Numbers.{design_in}
use Rattle.design.proofs.Reading.{readable, not_refused}
use Rattle.design.proofs.encoded.Encoded.register.Goals as goal

pub returns : goal.returns
unfolding design_in
returns c =
    let h = readable _ (not_refused c.args.self.numbers.now c.args.self.readable) in
    record {
      width = simp (← c.register_place-place.ensures.place) (c.at.ensures.only 0 (λ y d. d));
      initial = simp (← c.register_place-place.ensures.place) (ap word (c.at-2.ensures.only 0 (λ y d. d)));
      next = c.register_node.ensures;
      named = λ l. omega (arith, h.registers c.args.register l);
    }
