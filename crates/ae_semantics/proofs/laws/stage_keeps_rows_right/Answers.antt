use Rattle.ae_semantics.proofs.RowsKept.{stage_keeps}
use Rattle.ae_semantics.proofs.laws.stage_keeps_rows_right.Goals as goal

pub returns : goal.returns
returns c = stage_keeps
