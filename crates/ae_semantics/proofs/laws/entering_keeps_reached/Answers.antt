use Rattle.ae_semantics.proofs.OpeningSteps.{entering_keeps}
use Rattle.ae_semantics.proofs.laws.entering_keeps_reached.Goals as goal

pub returns : goal.returns
returns c = entering_keeps
