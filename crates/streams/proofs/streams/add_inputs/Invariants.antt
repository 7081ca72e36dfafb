use Rattle.std.proofs.Common.{◌≡◌, ◌+◌, vec_len}
use Rattle.streams.proofs.streams.add_inputs.Given as goal

abbrev pub invariant-loop-port : goal.invariant-loop-port
invariant-loop-port l = vec_len l.numbers ≡ vec_len l.initial.numbers + l.port-index
