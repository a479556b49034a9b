use Rattle.ae_rules.proofs.LawLemmas.{judged_or_broken}
use Rattle.ae_rules.proofs.laws.statements_are_judged_or_broken.Goals as goal

pub returns : goal.returns
returns c = judged_or_broken
