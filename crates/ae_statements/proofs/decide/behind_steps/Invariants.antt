use Rattle.std.proofs.Common.{length}
use Rattle.ae_statements.proofs.SideLemmas.{Through}
use Rattle.ae_statements.proofs.decide.behind_steps.Given as goal

abbrev pub invariant-steps : goal.invariant-steps
invariant-steps l = Through l.ts l.rest

abbrev pub decreases-steps : goal.decreases-steps
decreases-steps l = length l.rest
