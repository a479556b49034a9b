use Rattle.ae_names.proofs.KnownLemmas.{names_end}
use Rattle.ae_names.proofs.laws.names_end_with_a_block.Goals as goal

pub returns : goal.returns
returns c = names_end
