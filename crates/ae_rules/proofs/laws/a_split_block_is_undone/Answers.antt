use Rattle.ae_rules.proofs.GroupLemmas.{split_is_undone}
use Rattle.ae_rules.proofs.laws.a_split_block_is_undone.Goals as goal

pub returns : goal.returns
returns c = split_is_undone
