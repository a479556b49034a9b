use Rattle.ae_rounds.proofs.WorkLemmas.{histories_rise}
use Rattle.ae_rounds.proofs.flow.histories_rise.Goals as goal

pub returns : goal.returns
returns g c = histories_rise g.M.Meanings.work
