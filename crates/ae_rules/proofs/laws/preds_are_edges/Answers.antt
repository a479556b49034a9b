use Rattle.ae_rules.proofs.PredLemmas.{preds_are_edges}
use Rattle.ae_rules.proofs.laws.preds_are_edges.Goals as goal

pub returns : goal.returns
returns c = preds_are_edges
