use Rattle.ae_rules.proofs.EdgeLemmas.{edges_go_forward}
use Rattle.ae_rules.proofs.laws.edges_go_forward.Goals as goal

pub returns : goal.returns
returns c = edges_go_forward
