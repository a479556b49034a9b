use Rattle.ae_rules.proofs.HeldLemmas.{walks_find_no_split}
use Rattle.ae_rules.proofs.laws.walks_find_no_split.Goals as goal

pub returns : goal.returns
returns c = walks_find_no_split
