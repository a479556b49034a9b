use Rattle.ae_soundness.proofs.CallingLemmas.{calls_keep_standing}
use Rattle.ae_soundness.proofs.laws.calls_keep_standing.Goals as goal

pub returns : goal.returns
returns c = calls_keep_standing c.calls_are_entered.ensures c.calls_are_left.ensures c.methods_give_back.ensures
