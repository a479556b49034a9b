use Rattle.std.proofs.Common.{◌≡◌, ◌<◌, ℕ, length, get_or}
use Rattle.std.specs.BinaryHeap.{heap_items}
use Rattle.ae_graph.specs.Graph.{preds_in}
use Rattle.ae_run.specs.Queue.{zero_as_one, waits_of}
use Rattle.ae_run.proofs.queue.Queue.new.Given as goal
use Rattle.ae_text.specs.Numbers.{times}

abbrev pub invariant-loop-j : goal.invariant-loop-j
invariant-loop-j l = record {
  size : length l.queue.waits.items ≡ l.j;
  waits : (i : ℕ) → i < l.j → get_or l.queue.waits.items i 0 ≡ length (preds_in l.graph i);
  ready : (i : ℕ) → times i (heap_items l.queue.ready) ≡ zero_as_one (waits_of l.queue.waits.items i);
}
