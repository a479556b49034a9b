use Rattle.ae_changes.proofs.LogLemmas.{acts_change_as_used}
use Rattle.ae_changes.proofs.laws.acts_change_as_used.Goals as goal

pub returns : goal.returns
returns c = acts_change_as_used c.walks_go_by_owners.ensures c.returns_give_results.ensures
