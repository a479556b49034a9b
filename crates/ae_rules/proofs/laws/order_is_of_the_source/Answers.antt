use Rattle.ae_rules.proofs.OrderLemmas.{order_is_of_the_source}
use Rattle.ae_rules.proofs.laws.order_is_of_the_source.Goals as goal

pub returns : goal.returns
returns c = order_is_of_the_source
