use Rattle.std.proofs.Common.{◌≡◌, ◌*◌, ◌≤◌, None}
use Rattle.design.specs.Designs.{input_sound, total}
use Rattle.design.specs.Numbers.{first_failing}
use Rattle.design.specs.Encodings.{design_of}
use Rattle.design.proofs.soundness.check_inputs.Given as goal

abbrev pub invariant-loop-k : goal.invariant-loop-k
invariant-loop-k l = (first_failing (input_sound (design_of l.design)) l.k ≡ None)
    × (l.bits ≡ total l.k (design_of l.design).input_width)
    × (l.bits ≤ 65535 * l.k)
