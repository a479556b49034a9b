use Rattle.std.proofs.Common.{length}
use Rattle.ae_expressions.proofs.StepLemmas.{Fields}
use Rattle.ae_expressions.proofs.paths.path.Given as goal

abbrev pub invariant-fields : goal.invariant-fields
invariant-fields l = Fields l.budget l.fn.ts l.root l.steps l.rest

abbrev pub decreases-fields : goal.decreases-fields
decreases-fields l = length l.rest
