use Rattle.ae_rules.proofs.LawLemmas.{first_is_one}
use Rattle.ae_rules.proofs.laws.first_broken_rule_is_one.Goals as goal

pub returns : goal.returns
returns c = first_is_one
