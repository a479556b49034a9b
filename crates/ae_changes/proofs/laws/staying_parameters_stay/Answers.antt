use Rattle.ae_changes.proofs.StayingLemmas.{staying_parameters_stay}
use Rattle.ae_changes.proofs.laws.staying_parameters_stay.Goals as goal

pub returns : goal.returns
returns c = staying_parameters_stay c.statements_keep_what_is_visible.ensures c.judging_keeps_right.ensures
