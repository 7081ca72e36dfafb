use Rattle.std.proofs.Common.{◌≡◌, ◌*◌, ◌≤◌, min, None}
use Rattle.design.specs.Designs.{output_sound, output_width, output_cells, total}
use Rattle.design.specs.Numbers.{first_failing}
use Rattle.design.specs.Encodings.{design_of}
use Rattle.design.proofs.soundness.check_outputs.Given as goal

abbrev pub invariant-loop-k : goal.invariant-loop-k
invariant-loop-k l = (first_failing (output_sound (design_of l.analysis.design)) l.k ≡ None)
    × (l.bits ≡ total l.k (output_width (design_of l.analysis.design)))
    × (l.bits ≤ 65535 * l.k)
    × (l.cells ≡ min 65536 (total l.k (output_cells (design_of l.analysis.design))))
