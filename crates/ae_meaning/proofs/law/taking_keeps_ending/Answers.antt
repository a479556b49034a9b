use Rattle.ae_meaning.proofs.Orders.{taking_keeps_ending}
use Rattle.ae_meaning.proofs.law.taking_keeps_ending.Goals as goal

pub returns : goal.returns
returns c = taking_keeps_ending
