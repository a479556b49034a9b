use Rattle.ae_rules.proofs.RootLemmas.{roots_are_used}
use Rattle.ae_rules.proofs.laws.roots_are_used.Goals as goal

pub returns : goal.returns
returns c = roots_are_used
