use Rattle.ae_semantics.proofs.StepsKeep.{looping_keeps}
use Rattle.ae_semantics.proofs.laws.looping_keeps_reached.Goals as goal

pub returns : goal.returns
returns c = looping_keeps
