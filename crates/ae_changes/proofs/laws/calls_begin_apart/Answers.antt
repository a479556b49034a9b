use Rattle.ae_changes.proofs.BeginLemmas.{calls_begin_apart}
use Rattle.ae_changes.proofs.laws.calls_begin_apart.Goals as goal

pub returns : goal.returns
returns c = calls_begin_apart c.every_slot_is_given.ensures
