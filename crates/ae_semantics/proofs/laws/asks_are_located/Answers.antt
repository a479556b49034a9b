use Rattle.ae_semantics.proofs.Located.{asks_are_located}
use Rattle.ae_semantics.proofs.laws.asks_are_located.Goals as goal

pub returns : goal.returns
returns c = asks_are_located
