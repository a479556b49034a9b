use Rattle.ae_rounds.proofs.LawLemmas.{chains_rise}
use Rattle.ae_rounds.proofs.laws.chains_rise.Goals as goal

pub returns : goal.returns
returns c = chains_rise
