use Rattle.ae_rules.proofs.WalkLemmas.{walks_go_by_owners}
use Rattle.ae_rules.proofs.laws.walks_go_by_owners.Goals as goal

pub returns : goal.returns
returns c = walks_go_by_owners
