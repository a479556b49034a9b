use Rattle.ae_soundness.proofs.GroupLemmas.{fields_are_of_groups}
use Rattle.ae_soundness.proofs.laws.fields_are_of_groups.Goals as goal

pub returns : goal.returns
returns c = fields_are_of_groups
