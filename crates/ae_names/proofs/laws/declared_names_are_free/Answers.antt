use Rattle.ae_names.proofs.AfterLemmas.{declared_are_free}
use Rattle.ae_names.proofs.laws.declared_names_are_free.Goals as goal

pub returns : goal.returns
returns c = declared_are_free
