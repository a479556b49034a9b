use Rattle.ae_rounds.proofs.WorkLemmas.{begun_were_ready}
use Rattle.ae_rounds.proofs.flow.begun_were_ready.Goals as goal

pub returns : goal.returns
returns g c = begun_were_ready g.M.Meanings.work
