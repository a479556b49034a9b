use Rattle.ae_semantics.proofs.StepsKeep.{starting_keeps}
use Rattle.ae_semantics.proofs.laws.starting_keeps_reached.Goals as goal

pub returns : goal.returns
returns c = starting_keeps
