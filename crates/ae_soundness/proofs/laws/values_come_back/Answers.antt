use Rattle.ae_soundness.proofs.UniqueLemmas.{values_come_back}
use Rattle.ae_soundness.proofs.laws.values_come_back.Goals as goal

pub returns : goal.returns
returns c = values_come_back
