use Rattle.ae_semantics.proofs.Fresh.{fresh_is_stamped}
use Rattle.ae_semantics.proofs.laws.fresh_is_stamped.Goals as goal

pub returns : goal.returns
returns c = fresh_is_stamped
