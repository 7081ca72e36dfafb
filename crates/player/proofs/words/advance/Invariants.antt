use Rattle.std.proofs.Common.{◌≡◌, ℕ, ◌<◌, get_or}
use Rattle.design.specs.Numbers.{register_node}
use Rattle.design.specs.Encodings.{list_of}
use Rattle.player.proofs.words.advance.Given as goal

abbrev pub invariant-loop-k : goal.invariant-loop-k
invariant-loop-k l = (j : ℕ) → j < l.k → j < l.registers → get_or l.words j 0 ≡ get_or l.table (register_node (list_of l.design) j) 0
