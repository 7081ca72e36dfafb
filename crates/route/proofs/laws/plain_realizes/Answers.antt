use Rattle.route.proofs.Laid.{plain_realizes}
use Rattle.route.proofs.laws.plain_realizes.Goals as goal

pub returns : goal.returns
returns c = plain_realizes
