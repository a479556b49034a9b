use Rattle.ae_semantics.proofs.LawLemmas.{contexts_are_judged}
use Rattle.ae_semantics.proofs.laws.contexts_are_judged.Goals as goal

pub returns : goal.returns
returns c = contexts_are_judged
