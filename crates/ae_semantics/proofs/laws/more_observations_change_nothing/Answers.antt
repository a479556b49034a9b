use Rattle.ae_semantics.proofs.LawLemmas.{more_changes_nothing}
use Rattle.ae_semantics.proofs.laws.more_observations_change_nothing.Goals as goal

pub returns : goal.returns
returns c = more_changes_nothing
