use Rattle.ae_semantics.proofs.LawLemmas.{statement_goes_further}
use Rattle.ae_semantics.proofs.laws.statement_goes_further_with_more.Goals as goal

pub returns : goal.returns
returns c = statement_goes_further
