use Rattle.ae_rules.proofs.LawLemmas.{never_both}
use Rattle.ae_rules.proofs.laws.statements_are_never_both.Goals as goal

pub returns : goal.returns
returns c = never_both
