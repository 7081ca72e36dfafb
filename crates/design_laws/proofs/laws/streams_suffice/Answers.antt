use Rattle.design_laws.proofs.Locality.{streams_suffice}
use Rattle.design_laws.proofs.laws.streams_suffice.Goals as goal

pub returns : goal.returns
returns c = streams_suffice
