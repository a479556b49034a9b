use Rattle.ae_semantics.proofs.LawLemmas.{goes_by_its_answers}
use Rattle.ae_semantics.proofs.laws.run_goes_by_its_answers.Goals as goal

pub returns : goal.returns
returns c = goes_by_its_answers
