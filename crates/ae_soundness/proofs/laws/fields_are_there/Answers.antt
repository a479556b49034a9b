use Rattle.ae_soundness.proofs.FieldLemmas.{fields_are_there}
use Rattle.ae_soundness.proofs.laws.fields_are_there.Goals as goal

pub returns : goal.returns
returns c = fields_are_there
