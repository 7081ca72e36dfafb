use Rattle.std.proofs.Common.{◌≡◌, ◌≤◌, vec_items, vec_len}
use Rattle.streams.proofs.streams.words_of.Given as goal

abbrev pub invariant-loop-word : goal.invariant-loop-word
invariant-loop-word l = (vec_items l.words ≡ l.yielded) × (vec_len l.words ≤ l.count)
