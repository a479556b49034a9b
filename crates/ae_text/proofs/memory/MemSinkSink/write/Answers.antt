use Rattle.std.proofs.Common.{arith}
use Rattle.ae_text.proofs.memory.MemSinkSink.write.Goals as goal

pub returns-then-failed-clause-cause : goal.returns-then-failed-clause-cause
returns-then-failed-clause-cause c = record {
  later = c.count.ensures.later;
  failed = omega (arith, c.count.ensures.rose c.if-failed.true);
  kept = tt;
}
