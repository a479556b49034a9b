use Rattle.ae_changes.proofs.CallingLemmas.{calls_change_as_used}
use Rattle.ae_changes.proofs.laws.calls_change_as_used.Goals as goal

pub returns : goal.returns
returns c = calls_change_as_used c.every_slot_is_given.ensures c.methods_give_back.ensures
