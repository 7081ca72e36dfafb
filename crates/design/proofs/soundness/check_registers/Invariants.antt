use Rattle.std.proofs.Common.{◌≡◌, min, None}
use Rattle.design.specs.Designs.{register_sound, register_cells, total}
use Rattle.design.specs.Numbers.{first_failing}
use Rattle.design.specs.Encodings.{design_of}
use Rattle.design.proofs.soundness.check_registers.Given as goal

abbrev pub invariant-loop-k : goal.invariant-loop-k
invariant-loop-k l = (first_failing (register_sound (design_of l.analysis.design)) l.k ≡ None)
    × (l.cells ≡ min 65536 (total l.k (register_cells (design_of l.analysis.design))))
