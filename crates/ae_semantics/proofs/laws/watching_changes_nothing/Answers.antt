use Rattle.ae_semantics.proofs.Watched.{watching_changes_nothing}
use Rattle.ae_semantics.proofs.laws.watching_changes_nothing.Goals as goal

pub returns : goal.returns
returns c = watching_changes_nothing
