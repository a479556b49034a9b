use Rattle.ae_rules.proofs.ChangeLemmas.{changes_are_used}
use Rattle.ae_rules.proofs.laws.changes_are_used.Goals as goal

pub returns : goal.returns
returns c = changes_are_used
