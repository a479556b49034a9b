use Rattle.ae_acts.proofs.RunLemmas.{acts_are}
use Rattle.ae_acts.proofs.laws.acts_are_the_meaning.Goals as goal

pub returns : goal.returns
returns c = (acts_are, acts_are)
