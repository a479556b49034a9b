use Rattle.ae_rules.proofs.PathLemmas.{conflicts_are_first}
use Rattle.ae_rules.proofs.laws.conflicts_are_first.Goals as goal

pub returns : goal.returns
returns c = conflicts_are_first
