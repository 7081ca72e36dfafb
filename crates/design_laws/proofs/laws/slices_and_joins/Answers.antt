use Rattle.design_laws.proofs.Arithmetic.{number_of_slice, number_of_join}
use Rattle.design_laws.proofs.laws.slices_and_joins.Goals as goal

pub returns : goal.returns
returns c = (number_of_slice, number_of_join)
