use Rattle.ae_rules.proofs.LawLemmas.{accepted_or_broken}
use Rattle.ae_rules.proofs.laws.programs_are_accepted_or_broken.Goals as goal

pub returns : goal.returns
returns c = accepted_or_broken
