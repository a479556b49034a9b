use Rattle.ae_semantics.proofs.FreshRows.{fresh_rows_stand_for}
use Rattle.ae_semantics.proofs.laws.fresh_rows_stand_for.Goals as goal

pub returns : goal.returns
returns c = fresh_rows_stand_for
