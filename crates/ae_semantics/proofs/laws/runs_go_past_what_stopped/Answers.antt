use Rattle.ae_semantics.proofs.Flowing.{runs_go_past}
use Rattle.ae_semantics.proofs.laws.runs_go_past_what_stopped.Goals as goal

pub returns : goal.returns
returns c = runs_go_past
