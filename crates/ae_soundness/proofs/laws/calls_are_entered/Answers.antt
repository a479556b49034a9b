use Rattle.ae_soundness.proofs.CallLemmas.{calls_are_entered}
use Rattle.ae_soundness.proofs.laws.calls_are_entered.Goals as goal

pub returns : goal.returns
returns c = calls_are_entered c.every_slot_is_given.ensures
