use Rattle.design_laws.proofs.Arithmetic.{equal_is_equal}
use Rattle.design_laws.proofs.laws.equal_is_equal.Goals as goal

pub returns : goal.returns
returns c = equal_is_equal
