use Rattle.std.proofs.Common.{◌≡◌, ℕ, length}
use Rattle.ae_run.specs.declared.course.Fate.TheVariants.{Waiting}
use Rattle.ae_run.specs.Course.{fate_at}
use Rattle.ae_run.proofs.course.Course.new.Given as goal

abbrev pub invariant-loop-j : goal.invariant-loop-j
invariant-loop-j l = (length l.fates.items ≡ l._j) × ((j : ℕ) → fate_at l.fates.items j ≡ Waiting)
