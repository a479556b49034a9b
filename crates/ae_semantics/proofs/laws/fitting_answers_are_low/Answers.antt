use Rattle.ae_semantics.proofs.FixedLemmas.{fitting_is_low}
use Rattle.ae_semantics.proofs.laws.fitting_answers_are_low.Goals as goal

pub returns : goal.returns
returns c = fitting_is_low
