use Rattle.std.proofs.Common.{◌≡◌, ◌+◌, ℕ, length, take}
use Rattle.std.specs.BinaryHeap.{heap_items}
use Rattle.ae_run.specs.Queue.{zero_as_one, waits_of}
use Rattle.ae_run.proofs.queue.Queue.release.Given as goal
use Rattle.ae_text.specs.Numbers.{times}

abbrev pub invariant-loop-succ : goal.invariant-loop-succ
invariant-loop-succ l = record {
  size : length l.self.waits.items ≡ length l.initial.self.waits.items;
  waits : (i : ℕ) → waits_of l.self.waits.items i + times i (take l.succ-index l.succs)
      ≡ waits_of l.initial.self.waits.items i;
  ready : (i : ℕ) → times i (heap_items l.self.ready) + zero_as_one (waits_of l.initial.self.waits.items i)
      ≡ times i (heap_items l.initial.self.ready) + zero_as_one (waits_of l.self.waits.items i);
}
