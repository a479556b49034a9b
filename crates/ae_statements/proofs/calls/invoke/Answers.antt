use Rattle.ae_statements.proofs.CallLemmas.{invoked_some}
use Rattle.ae_statements.proofs.calls.invoke.Goals as goal

pub returns-in-Some : goal.returns-in-Some
returns-in-Some c = invoked_some _ _ _ _ _ _ c.in-Some.ensures
