use Rattle.ae_rounds.proofs.WorkLemmas.{entries_are_drawn}
use Rattle.ae_rounds.proofs.flow.added_entries_are_drawn.Goals as goal

pub returns : goal.returns
returns g c = entries_are_drawn g.M.Meanings.work
