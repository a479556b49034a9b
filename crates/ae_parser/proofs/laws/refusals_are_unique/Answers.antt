use Rattle.ae_parser.proofs.RefusalLemmas.{refusals_are_unique}
use Rattle.ae_parser.proofs.laws.refusals_are_unique.Goals as goal

pub returns : goal.returns
returns c = refusals_are_unique
