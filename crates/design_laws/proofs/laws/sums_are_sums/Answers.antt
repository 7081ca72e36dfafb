use Rattle.design.specs.Designs.{eval}
use Rattle.design_laws.proofs.Arithmetic.{number_of_sum}
use Rattle.design_laws.proofs.laws.sums_are_sums.Goals as goal

pub returns : goal.returns
unfolding eval
returns c = λ d ins regs x y w. number_of_sum (eval d ins regs x) (eval d ins regs y) w
