use Rattle.ae_semantics.proofs.LawLemmas.{more_goes_further}
use Rattle.ae_semantics.proofs.laws.run_goes_further_with_more.Goals as goal

pub returns : goal.returns
returns c = more_goes_further
