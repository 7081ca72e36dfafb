use Rattle.std.proofs.Common.{◌≡◌, take, length}
use Rattle.entries.proofs.lines.read_line.Given as goal

abbrev pub invariant-loop-word : goal.invariant-loop-word
invariant-loop-word l = (l.count ≡ length l.yielded) × (take l.count l.words ≡ l.yielded) × (length l.words ≡ 13)
