use Rattle.ae_changes.proofs.ApartLemmas.{names_stay_apart}
use Rattle.ae_changes.proofs.laws.names_stay_apart.Goals as goal

pub returns : goal.returns
returns c = names_stay_apart c.statements_keep_what_is_visible.ensures
