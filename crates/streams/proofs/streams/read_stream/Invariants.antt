use Rattle.std.proofs.Common.{◌≡◌, ◌+◌, ◌*◌, ◌≤◌, length, vec_len}
use Rattle.streams.specs.Lines.{StreamLines}
use Rattle.streams.proofs.streams.read_stream.Given as goal

abbrev pub invariant-loop-part : goal.invariant-loop-part
invariant-loop-part l = record {
  counted : l.ticks ≡ length l.yielded;
  fits : l.ticks + length l.part-iterator.rest.now ≤ length l.text;
  full : vec_len l.numbers ≡ l.ticks * length l.ports;
  each : StreamLines (length l.ports) l.yielded (length l.yielded);
}
