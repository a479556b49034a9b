use Rattle.ae_starts.proofs.EnteredLemmas.{entered_are_known}
use Rattle.ae_starts.proofs.laws.entered_names_are_known.Goals as goal

pub returns : goal.returns
returns c = entered_are_known c.every_slot_is_given.ensures
