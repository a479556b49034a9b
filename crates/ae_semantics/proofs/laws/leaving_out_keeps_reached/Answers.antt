use Rattle.ae_semantics.proofs.StepsKeep.{leaving_out_keeps}
use Rattle.ae_semantics.proofs.laws.leaving_out_keeps_reached.Goals as goal

pub returns : goal.returns
returns c = leaving_out_keeps
