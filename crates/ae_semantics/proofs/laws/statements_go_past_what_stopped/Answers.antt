use Rattle.ae_semantics.proofs.Flowing.{statements_go_past}
use Rattle.ae_semantics.proofs.laws.statements_go_past_what_stopped.Goals as goal

pub returns : goal.returns
returns c = statements_go_past
