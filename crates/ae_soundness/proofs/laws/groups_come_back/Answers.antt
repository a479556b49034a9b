use Rattle.ae_soundness.proofs.BackLemmas.{groups_come_back}
use Rattle.ae_soundness.proofs.laws.groups_come_back.Goals as goal

pub returns : goal.returns
returns c = groups_come_back
