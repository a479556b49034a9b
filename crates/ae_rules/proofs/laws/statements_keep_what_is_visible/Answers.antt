use Rattle.ae_rules.proofs.KeepLemmas.{statements_keep}
use Rattle.ae_rules.proofs.laws.statements_keep_what_is_visible.Goals as goal

pub returns : goal.returns
returns c = statements_keep
