use Rattle.ae_values.proofs.BindLemmas as lemma
use Rattle.ae_values.proofs.laws.locals_change.Goals as goal

pub returns : goal.returns
returns c = lemma.locals_change
