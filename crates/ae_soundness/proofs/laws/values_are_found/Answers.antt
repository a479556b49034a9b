use Rattle.ae_soundness.proofs.ValueLemmas.{values_are_found}
use Rattle.ae_soundness.proofs.laws.values_are_found.Goals as goal

pub returns : goal.returns
returns c = values_are_found
