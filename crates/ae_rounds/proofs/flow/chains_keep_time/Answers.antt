use Rattle.ae_rounds.proofs.FlowLemmas.{chains_keep_time}
use Rattle.ae_rounds.proofs.flow.chains_keep_time.Goals as goal

pub returns : goal.returns
returns g c = chains_keep_time g.M.Meanings.work
