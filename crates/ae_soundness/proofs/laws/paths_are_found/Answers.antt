use Rattle.ae_soundness.proofs.PlaceLemmas.{paths_are_found}
use Rattle.ae_soundness.proofs.laws.paths_are_found.Goals as goal

pub returns : goal.returns
returns c = paths_are_found
