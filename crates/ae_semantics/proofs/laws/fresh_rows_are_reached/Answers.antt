use Rattle.ae_semantics.proofs.FreshRows.{fresh_is_reached}
use Rattle.ae_semantics.proofs.laws.fresh_rows_are_reached.Goals as goal

pub returns : goal.returns
returns c = fresh_is_reached
