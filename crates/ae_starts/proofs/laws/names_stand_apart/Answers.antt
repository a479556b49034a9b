use Rattle.ae_starts.proofs.ApartLemmas.{names_stand_apart}
use Rattle.ae_starts.proofs.laws.names_stand_apart.Goals as goal

pub returns : goal.returns
returns c = names_stand_apart
