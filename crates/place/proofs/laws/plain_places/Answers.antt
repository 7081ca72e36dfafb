use Rattle.place.proofs.Standing.{plain_places}
use Rattle.place.proofs.laws.plain_places.Goals as goal

pub returns : goal.returns
returns c = plain_places
