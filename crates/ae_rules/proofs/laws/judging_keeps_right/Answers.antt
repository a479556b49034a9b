use Rattle.ae_rules.proofs.HeldLemmas.{judging_keeps_right}
use Rattle.ae_rules.proofs.laws.judging_keeps_right.Goals as goal

pub returns : goal.returns
returns c = judging_keeps_right
