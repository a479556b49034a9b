use Rattle.ae_semantics.proofs.FreshRows.{fresh_rows_are_stamped}
use Rattle.ae_semantics.proofs.laws.fresh_rows_are_stamped.Goals as goal

pub returns : goal.returns
returns c = fresh_rows_are_stamped
