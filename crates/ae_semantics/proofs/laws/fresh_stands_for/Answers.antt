use Rattle.ae_semantics.proofs.Fresh.{fresh_stands_for}
use Rattle.ae_semantics.proofs.laws.fresh_stands_for.Goals as goal

pub returns : goal.returns
returns c = fresh_stands_for
