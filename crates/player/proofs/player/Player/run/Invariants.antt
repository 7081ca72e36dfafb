use Rattle.std.proofs.Common.{◌≡◌, map, None, vec_items}
use Rattle.design.specs.Numbers.{soundness_refusal}
use Rattle.player.specs.Players.{played, held}
use Rattle.player.specs.Plays.{Holds}
use Rattle.player.proofs.Streaming.{Playing}
use Rattle.player.proofs.player.Player.run.Given as goal

abbrev pub invariant-loop-inputs : goal.invariant-loop-inputs
invariant-loop-inputs l =
    (played l.self ≡ played l.initial.self)
    × (soundness_refusal (played l.initial.self) ≡ None → Holds (played l.initial.self) (played l.initial.self).initial (held l.initial.self) →
    Playing (played l.initial.self) (map vec_items l.stream) l.inputs-index (held l.self) (map vec_items (vec_items l.shown)))
