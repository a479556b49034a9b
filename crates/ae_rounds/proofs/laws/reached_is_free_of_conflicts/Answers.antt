use Rattle.ae_rounds.proofs.LawLemmas.{reached_is_free}
use Rattle.ae_rounds.proofs.laws.reached_is_free_of_conflicts.Goals as goal

pub returns : goal.returns
returns c = reached_is_free
