use Rattle.ae_soundness.proofs.SlotLemmas.{slots_are_found}
use Rattle.ae_soundness.proofs.laws.slots_are_found.Goals as goal

pub returns : goal.returns
returns c = slots_are_found c.walks_go_by_owners.ensures
