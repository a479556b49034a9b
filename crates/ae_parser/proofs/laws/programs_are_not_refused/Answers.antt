use Rattle.ae_parser.proofs.RefusalLemmas.{programs_are_not_refused}
use Rattle.ae_parser.proofs.laws.programs_are_not_refused.Goals as goal

pub returns : goal.returns
returns c = programs_are_not_refused
