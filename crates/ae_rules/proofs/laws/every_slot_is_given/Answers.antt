use Rattle.ae_rules.proofs.ShapeLemmas.{every_slot_is_given}
use Rattle.ae_rules.proofs.laws.every_slot_is_given.Goals as goal

pub returns : goal.returns
returns c = every_slot_is_given
