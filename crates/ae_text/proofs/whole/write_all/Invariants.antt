use Rattle.std.proofs.Common.{length, ◌≡◌, ◌-◌, ◌≤◌, take}
use Rattle.std.specs.Io.KnownBytes.{Appends}
use Rattle.ae_text.specs.Calls.{ReachesEnd}
use Rattle.ae_text.proofs.whole.write_all.Given as goal

abbrev pub invariant-loop-done : goal.invariant-loop-done
invariant-loop-done g l = record {
  within : l.done ≤ length l.text;
  bytes : Appends (g.K.Sink.taken l.initial.sink) (g.K.Sink.taken l.sink) (take l.done l.text);
  kept : g.K.Sink.faults l.sink ≡ g.K.Sink.faults l.initial.sink;
  reach : ReachesEnd (g.K.Sink.reach l.initial.sink) (g.K.Sink.reach l.sink) (g.K.Sink.taken l.initial.sink) l.text;
  unwritten : l.done ≡ 0 → l.sink ≡ l.initial.sink;
}

abbrev pub decreases-loop-done : goal.decreases-loop-done
decreases-loop-done g l = length l.text - l.done
