use Rattle.std.proofs.Common.{◌≡◌, ℕ, ◌<◌, false, get_or}
use Rattle.fabric.specs.Fabrics.{sweep}
use Rattle.fabric.specs.Numbers.{held_in}
use Rattle.fabric.specs.Code.{grid_of, config_of, pads_of, levels_of, signal_at}
use Rattle.fabric.proofs.wiring.Moment.sweep.Given as goal

abbrev pub invariant-loop-place : goal.invariant-loop-place
invariant-loop-place l = (k : ℕ) → k < l.place →
    get_or l.next k false ≡ signal_at (grid_of l.self.wiring) (sweep (grid_of l.self.wiring) (config_of l.self.wiring) (held_in l.held) (pads_of l.self.wiring) (levels_of l.self)) k
