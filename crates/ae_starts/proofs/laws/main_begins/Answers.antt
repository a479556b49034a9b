use Rattle.ae_starts.proofs.MainLemmas.{main_begins}
use Rattle.ae_starts.proofs.laws.main_begins.Goals as goal

pub returns : goal.returns
returns c = main_begins
