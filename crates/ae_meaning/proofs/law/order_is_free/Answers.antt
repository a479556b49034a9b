use Rattle.ae_meaning.proofs.Orders.{order_is_free}
use Rattle.ae_meaning.proofs.law.order_is_free.Goals as goal

pub returns : goal.returns
returns c = order_is_free
