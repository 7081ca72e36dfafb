-- Where words begin, as the code holds it.
-- Only proofs use these definitions: no promise to a user names them.
use Rattle.std.specs.Prelude.{◌≡◌, ℕ, ◌*◌, ◌<◌, ◌≤◌, min, List, slice_index}
use Rattle.design.specs.Designs.{total}
use Rattle.netlist.specs.declared.starts.Starts.{Starts}
use Rattle.netlist.specs.declared.starts.Starts.TheVariants.{Single, Marks}

-- so many words, of such widths, begin so: each is a single bit, or it is marked how many bits come before each 64th; 65,535 stands for more
pub record Marked (s : Starts) (words : ℕ) (widths : ℕ → ℕ) : Type 0 where
  pub single : s ≡ Single → (j : ℕ) → j < words → widths j ≡ 1
  pub marks : (ms : List ℕ) → s ≡ Marks ms → (q : ℕ) → 64 * q ≤ words → slice_index ms q ≡ min 65535 (total (64 * q) widths)
