use Rattle.std.proofs.Common.{ap}
use Rattle.design.specs.Numbers.{design_in}
use Rattle.design.specs.Encodings.{design_of}
use Rattle.design.proofs.Sound.{sound_from_none}
use Rattle.player.proofs.player.Player.new.Goals as goal

pub returns : goal.returns
returns c =
    let none = c.in_ok-check.ensures.0 in
    (none, ap design_in c.new.ensures, c.in_ok-words.ensures (sound_from_none (design_of c.args.design) none))
