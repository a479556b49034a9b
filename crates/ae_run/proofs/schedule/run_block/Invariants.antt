use Rattle.std.specs.BinaryHeap.{heap_items}
use Rattle.ae_tree.specs.Shown.{code}
use Rattle.ae_run.specs.Queue.{AreWaits, AreReady}
use Rattle.ae_run.specs.Course.{IsOnCourse, went, was_taken}
use Rattle.ae_run.proofs.Queues.{open_count}
use Rattle.ae_run.proofs.schedule.run_block.Given as goal

abbrev pub invariant-loop-j : goal.invariant-loop-j
invariant-loop-j g l = record {
  course : IsOnCourse (code l.code.program) l.course;
  waits : AreWaits l.graph (went l.course.fates.items) l.queue.waits.items;
  ready : AreReady (was_taken l.course.fates.items) l.queue.waits.items (heap_items l.queue.ready);
}

abbrev pub decreases-loop-j : goal.decreases-loop-j
decreases-loop-j g l = open_count l.course.fates.items
