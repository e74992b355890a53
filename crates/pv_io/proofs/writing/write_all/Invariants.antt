-- The sink grew by the bytes written so far, a beginning of all of them; each turn leaves fewer to write.
use Rattle.std.proofs.Common.{◌≡◌, ◌-◌, ◌≤◌, [], length, take}
use Rattle.std.specs.Io.KnownBytes.{Appends}
use Rattle.pv_io.specs.Stream.{KnownAlike}
use Rattle.pv_io.proofs.writing.write_all.Given as goal

abbrev pub invariant-loop-written : goal.invariant-loop-written
invariant-loop-written g l = record {
  within : l.written ≤ length l.bytes;
  appended : Appends (g.W.Sink.held l.initial.sink) (g.W.Sink.held l.sink) (take l.written l.bytes);
  known : KnownAlike (g.W.Sink.held l.initial.sink) (g.W.Sink.held l.sink);
  counted : g.W.Sink.faults l.sink ≡ g.W.Sink.faults l.initial.sink;
  none : l.bytes ≡ [] → l.sink ≡ l.initial.sink;
}

abbrev pub decreases-loop-written : goal.decreases-loop-written
decreases-loop-written g l = length l.bytes - l.written
