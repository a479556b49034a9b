use Rattle.ae_semantics.proofs.FixedLemmas.{cells_are_fixed}
use Rattle.ae_semantics.proofs.laws.reported_cells_are_fixed.Goals as goal

pub returns : goal.returns
returns c = cells_are_fixed
