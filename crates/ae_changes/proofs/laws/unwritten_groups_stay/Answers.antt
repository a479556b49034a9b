use Rattle.ae_changes.proofs.ApartLemmas.{unwritten_groups_stay}
use Rattle.ae_changes.proofs.laws.unwritten_groups_stay.Goals as goal

pub returns : goal.returns
returns c = unwritten_groups_stay c.uses_are_allowed.ensures c.statements_keep_what_is_visible.ensures
