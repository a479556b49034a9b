use Rattle.ae_semantics.proofs.StepsKeep.{answered_step_keeps}
use Rattle.ae_semantics.proofs.laws.step_keeps_reached.Goals as goal

pub returns : goal.returns
returns c = answered_step_keeps
