use Rattle.ae_soundness.proofs.GiveLemmas.{methods_give_back}
use Rattle.ae_soundness.proofs.laws.methods_give_back.Goals as goal

pub returns : goal.returns
returns c = methods_give_back c.every_slot_is_given.ensures c.statements_keep_what_is_visible.ensures
