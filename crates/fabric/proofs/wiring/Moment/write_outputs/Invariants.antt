use Rattle.std.proofs.Common.{◌≡◌, ℕ, ◌<◌, false, get_or}
use Rattle.design.specs.Designs.{bit}
use Rattle.fabric.specs.Code.{grid_of, out_place}
use Rattle.fabric.proofs.wiring.Moment.write_outputs.Given as goal

abbrev pub invariant-loop-place : goal.invariant-loop-place
invariant-loop-place l = (k : ℕ) → k < l.place → get_or l.outs k 0 ≡ bit (get_or l.self.levels.now (out_place (grid_of l.self.wiring) k) false)
