use Rattle.ae_unsplit.proofs.ThisLemmas.{text_other}
use Rattle.ae_unsplit.proofs.laws.texts_have_this_free.Goals as goal

pub returns : goal.returns
returns c text tokens p l d = c.this_is_no_declared_name.ensures tokens p (text_other text tokens l) d
