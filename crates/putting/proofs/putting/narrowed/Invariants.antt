use Rattle.std.proofs.Common.{◌≡◌, vec_len}
use Rattle.putting.proofs.putting.narrowed.Given as goal

abbrev pub invariant-loop-place : goal.invariant-loop-place
invariant-loop-place l = vec_len l.design ≡ l.place
