use Rattle.std.proofs.Common.{◌≡◌, ℕ, ◌<◌, get_or}
use Rattle.design.specs.Designs.{bit}
use Rattle.fabric.specs.Fabrics.{lookup}
use Rattle.fabric.specs.Code.{grid_of, config_of, pads_of, levels_of}
use Rattle.fabric.proofs.wiring.Moment.write_held.Given as goal

abbrev pub invariant-loop-cell : goal.invariant-loop-cell
invariant-loop-cell l = (k : ℕ) → k < l.cell →
    get_or l.held k 0 ≡ bit (lookup (grid_of l.self.wiring) (config_of l.self.wiring) (pads_of l.self.wiring) (levels_of l.self) k)
