use Rattle.ae_soundness.proofs.ResultLemmas.{returns_give_results}
use Rattle.ae_soundness.proofs.laws.returns_give_results.Goals as goal

pub returns : goal.returns
returns c = returns_give_results
