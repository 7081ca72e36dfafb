use Rattle.std.proofs.Common.{◌≡◌, ℕ, ◌<◌, ◌≤◌, min, arith}
use Rattle.design.specs.Designs.{total}
use Rattle.netlist.specs.declared.starts.Starts.{Starts}
use Rattle.netlist.specs.declared.starts.Starts.TheVariants.{Single}
use Rattle.netlist.specs.Starts.{Marked}
use Rattle.netlist.proofs.Totals.{total_ones}
use Rattle.netlist.proofs.starts.Starts.before.Goals as goal

-- words of a single bit
single : (s : Starts) (words word : ℕ) (widths : ℕ → ℕ) → s ≡ Single → Marked s words widths → word ≤ words → word < 65536 → word ≡ min 65535 (total word widths)
single s words word widths e m h small =
    let ones = m.single e in
    omega (arith, total_ones widths word (λ j l. ones j (omega arith)))

pub returns-in-Single : goal.returns-in-Single
returns-in-Single g c = λ words widths m h is. single _ words _ widths c.in-Single.is m h (omega arith)

pub returns-in-Marks : goal.returns-in-Marks
returns-in-Marks g c = λ words widths m h is.
    c.bits_up_to.ensures widths is (omega arith) (m.marks _ c.in-Marks.is _ (omega arith))
