use Rattle.ae_rules.proofs.GroupLemmas.{atomic_holds_back}
use Rattle.ae_rules.proofs.laws.an_atomic_block_holds_back.Goals as goal

pub returns : goal.returns
returns c = atomic_holds_back
