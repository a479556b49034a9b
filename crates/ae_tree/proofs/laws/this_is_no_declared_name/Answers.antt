use Rattle.ae_tree.proofs.ThisLemmas.{derived_have_this_free}
use Rattle.ae_tree.proofs.laws.this_is_no_declared_name.Goals as goal

pub returns : goal.returns
returns c = derived_have_this_free
