use Rattle.ae_rules.proofs.LawLemmas.{taken_is_given_back}
use Rattle.ae_rules.proofs.laws.taken_is_given_back.Goals as goal

pub returns : goal.returns
returns c = taken_is_given_back
