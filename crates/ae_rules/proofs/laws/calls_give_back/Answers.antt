use Rattle.ae_rules.proofs.CallLemmas.{calls_give_back}
use Rattle.ae_rules.proofs.laws.calls_give_back.Goals as goal

pub returns : goal.returns
returns c = calls_give_back
