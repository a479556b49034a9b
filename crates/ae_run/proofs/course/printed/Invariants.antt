use Rattle.std.proofs.Common.{◌≡◌, take}
use Rattle.ae_run.specs.Course.{pieces}
use Rattle.ae_run.proofs.course.printed.Given as goal

abbrev pub invariant-loop-fate : goal.invariant-loop-fate
invariant-loop-fate l = l.out.items ≡ pieces (take l.fate-index l.fates)
