use Rattle.ae_changes.proofs.BeginLemmas.{beginnings_are_apart}
use Rattle.ae_changes.proofs.laws.beginnings_are_apart.Goals as goal

pub returns : goal.returns
returns c = beginnings_are_apart
