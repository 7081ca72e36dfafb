use Rattle.design_laws.proofs.Locality.{widths_suffice}
use Rattle.design_laws.proofs.laws.widths_suffice.Goals as goal

pub returns : goal.returns
returns c = widths_suffice
