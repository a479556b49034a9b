use Rattle.ae_rules.proofs.OrderLemmas.{order_is_transitive}
use Rattle.ae_rules.proofs.laws.order_is_transitive.Goals as goal

pub returns : goal.returns
returns c = order_is_transitive
