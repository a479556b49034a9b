use Rattle.ae_rules.proofs.LawLemmas.{never_accepted_and_broken}
use Rattle.ae_rules.proofs.laws.programs_are_never_both.Goals as goal

pub returns : goal.returns
returns c = never_accepted_and_broken
