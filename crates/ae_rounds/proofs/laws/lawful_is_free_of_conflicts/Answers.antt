use Rattle.ae_rounds.proofs.LawLemmas.{lawful_is_free}
use Rattle.ae_rounds.proofs.laws.lawful_is_free_of_conflicts.Goals as goal

pub returns : goal.returns
returns c = lawful_is_free
