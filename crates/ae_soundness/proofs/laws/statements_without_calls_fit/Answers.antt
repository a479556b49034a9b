use Rattle.ae_soundness.proofs.StatementLemmas.{statements_without_calls_fit}
use Rattle.ae_soundness.proofs.laws.statements_without_calls_fit.Goals as goal

pub returns : goal.returns
returns c = statements_without_calls_fit c.walks_go_by_owners.ensures
