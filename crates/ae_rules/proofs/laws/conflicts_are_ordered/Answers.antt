use Rattle.ae_rules.proofs.EdgeLemmas.{conflicts_are_ordered}
use Rattle.ae_rules.proofs.laws.conflicts_are_ordered.Goals as goal

pub returns : goal.returns
returns c = conflicts_are_ordered
