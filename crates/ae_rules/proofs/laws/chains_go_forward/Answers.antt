use Rattle.ae_rules.proofs.EdgeLemmas.{chains_go_forward}
use Rattle.ae_rules.proofs.laws.chains_go_forward.Goals as goal

pub returns : goal.returns
returns c = chains_go_forward
