use Rattle.ae_rounds.proofs.LawLemmas.{events_keep}
use Rattle.ae_rounds.proofs.laws.events_keep_what_is_lawful.Goals as goal

pub returns : goal.returns
returns c = events_keep
