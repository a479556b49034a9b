use Rattle.ae_rounds.proofs.LawLemmas.{begun_stays}
use Rattle.ae_rounds.proofs.laws.begun_never_waits.Goals as goal

pub returns : goal.returns
returns c = begun_stays
