use Rattle.ae_rounds.proofs.LawLemmas.{sound_is_calm}
use Rattle.ae_rounds.proofs.laws.sound_is_calm.Goals as goal

pub returns : goal.returns
returns g c = sound_is_calm g.T.Tasks.conflict g.T.Tasks.ordered
