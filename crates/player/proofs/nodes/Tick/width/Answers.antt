use Rattle.design.specs.Encodings.{list_of}
use Rattle.player.proofs.Passing.{width_cut}
use Rattle.player.proofs.nodes.Tick.width.Goals as goal

pub returns : goal.returns
returns c = width_cut (list_of c.args.self.analysis.now.design) c.args.n c.width.result c.of.result.bits c.width.ensures c.of.ensures
