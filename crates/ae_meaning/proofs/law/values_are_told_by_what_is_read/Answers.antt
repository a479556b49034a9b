use Rattle.ae_meaning.proofs.Effects.{value_same}
use Rattle.ae_meaning.proofs.law.values_are_told_by_what_is_read.Goals as goal

pub returns : goal.returns
returns c = value_same
