use Rattle.design_laws.proofs.Arithmetic.{less_is_less}
use Rattle.design_laws.proofs.laws.less_is_less.Goals as goal

pub returns : goal.returns
returns c = less_is_less
