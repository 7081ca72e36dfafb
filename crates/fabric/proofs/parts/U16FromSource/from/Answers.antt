use Rattle.std.proofs.Common.{◌+◌, ◌*◌, arith}
use Rattle.std.proofs.lemmas.Bool.Decides.{nat_tests}
use Rattle.fabric.proofs.Coding.{source_of_track}
use Rattle.fabric.proofs.parts.U16FromSource.from.Goals as goal

pub returns-then-track-lt64 : goal.returns-then-track-lt64
returns-then-track-lt64 c =
    let e = c.in-Track.is in
    let t = c.in-Track.track in
    let h = c.if-track-lt64.true in
    let d = source_of_track c.in-Track.side t (2 + 64 * c.from.result + t) h (simp c.from.ensures.0) in
    (simp e (grind (arith, nat_tests)), omega arith)
