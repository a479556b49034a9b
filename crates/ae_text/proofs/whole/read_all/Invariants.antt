use Rattle.std.proofs.Common.{◌≡◌, length, ◌-◌, ◌≤◌}
use Rattle.std.specs.Io.KnownBytes.{Consumes}
use Rattle.ae_text.specs.Calls.{AsksAtMost}
use Rattle.ae_text.proofs.whole.read_all.Given as goal

abbrev pub invariant-loop-piece : goal.invariant-loop-piece
invariant-loop-piece g l = record {
  within : length l.bytes.items ≤ 1048577;
  bytes : Consumes (g.S.Source.left l.initial.src) (g.S.Source.left l.src) l.bytes.items;
  kept : g.S.Source.faults l.src ≡ g.S.Source.faults l.initial.src;
  asked : AsksAtMost (g.S.Source.asked l.initial.src) (g.S.Source.asked l.src) 4096;
}

abbrev pub decreases-loop-piece : goal.decreases-loop-piece
decreases-loop-piece g l = 1048577 - length l.bytes.items
