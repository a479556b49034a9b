use Rattle.ae_tree.proofs.DeclLemmas.{derived_are_well_shaped}
use Rattle.ae_tree.proofs.laws.derived_programs_are_well_shaped.Goals as goal

pub returns : goal.returns
returns c = derived_are_well_shaped
