use Rattle.ae_semantics.proofs.RowsAnswered.{answering_keeps}
use Rattle.ae_semantics.proofs.laws.answering_keeps_rows_right.Goals as goal

pub returns : goal.returns
returns c = answering_keeps
