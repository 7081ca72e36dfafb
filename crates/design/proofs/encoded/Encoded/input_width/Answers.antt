use Rattle.design.specs.Numbers.{design_in, input_place}
use Rattle.design.proofs.encoded.Encoded.input_width.Goals as goal

pub returns : goal.returns
unfolding design_in input_place
returns c = c.at.ensures.only 0 (λ y d. d)
