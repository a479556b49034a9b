use Rattle.ae_semantics.proofs.OpeningSteps.{turning_keeps}
use Rattle.ae_semantics.proofs.laws.turning_keeps_reached.Goals as goal

pub returns : goal.returns
returns c = turning_keeps
