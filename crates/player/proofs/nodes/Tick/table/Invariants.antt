use Rattle.std.proofs.Common.{◌≡◌, length}
use Rattle.design.specs.Designs.{Sound}
use Rattle.design.specs.Encodings.{list_of, design_of}
use Rattle.player.specs.Tables.{Known}
use Rattle.player.proofs.nodes.Tick.table.Given as goal

abbrev pub invariant-loop-n : goal.invariant-loop-n
invariant-loop-n l = (length l.known ≡ 1024)
    × (Sound (design_of l.self.analysis.now.design) → Known (list_of l.self.analysis.now.design) l.self.inputs.now l.self.registers.now l.n l.known)
