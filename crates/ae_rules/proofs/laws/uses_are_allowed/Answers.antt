use Rattle.ae_rules.proofs.VisibleLemmas.{uses_are_allowed}
use Rattle.ae_rules.proofs.laws.uses_are_allowed.Goals as goal

pub returns : goal.returns
returns c = uses_are_allowed
