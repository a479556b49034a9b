use Rattle.ae_semantics.proofs.LawLemmas.{statement_goes_by_its_answers}
use Rattle.ae_semantics.proofs.laws.statement_goes_by_its_answers.Goals as goal

pub returns : goal.returns
returns c = statement_goes_by_its_answers
