use Rattle.std.proofs.Common.{◌≡◌, ℕ, ◌*◌, ◌<◌, ◌≤◌, min, length, get_or}
use Rattle.design.specs.Designs.{total}
use Rattle.netlist.proofs.starts.Starts.new.Given as goal

-- the marks of the blocks up to q are right
abbrev pub invariant-loop-q : goal.invariant-loop-q
invariant-loop-q g l = (length l.marks ≡ 1024) × ((widths : ℕ → ℕ) → ((j w : ℕ) → j < l.words → goal.F-post g l.width j w → w ≡ widths j) → (k : ℕ) → k ≤ l.q → get_or l.marks k 0 ≡ min 65535 (total (64 * k) widths))
