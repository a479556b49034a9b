use Rattle.ae_soundness.proofs.BackLemmas.{members_may_come_back}
use Rattle.ae_soundness.proofs.laws.members_may_come_back.Goals as goal

pub returns : goal.returns
returns c = members_may_come_back
