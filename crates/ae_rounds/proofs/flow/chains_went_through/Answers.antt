use Rattle.ae_rounds.proofs.FlowLemmas.{chains_went_through}
use Rattle.ae_rounds.proofs.flow.chains_went_through.Goals as goal

pub returns : goal.returns
returns g c = chains_went_through g.M.Meanings.work
