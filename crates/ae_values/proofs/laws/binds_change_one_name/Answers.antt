use Rattle.ae_values.proofs.BindLemmas.{one_name_changes}
use Rattle.ae_values.proofs.laws.binds_change_one_name.Goals as goal

pub returns : goal.returns
returns c = one_name_changes
