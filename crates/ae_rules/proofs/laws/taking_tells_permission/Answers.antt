use Rattle.ae_rules.proofs.LawLemmas.{taking_tells_permission}
use Rattle.ae_rules.proofs.laws.taking_tells_permission.Goals as goal

pub returns : goal.returns
returns c = taking_tells_permission
