use Rattle.ae_names.proofs.AfterLemmas.{names_known}
use Rattle.ae_names.proofs.laws.names_are_known.Goals as goal

pub returns : goal.returns
returns c = names_known c.lines_add_what_they_declare.ensures
