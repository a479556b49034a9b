use Rattle.ae_rules.proofs.HeldLemmas.{held_is_right}
use Rattle.ae_rules.proofs.laws.held_is_right.Goals as goal

pub returns : goal.returns
returns c = held_is_right
