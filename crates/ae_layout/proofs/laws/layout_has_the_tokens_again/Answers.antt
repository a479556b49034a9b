use Rattle.ae_layout.proofs.Sources.{layout_again}
use Rattle.ae_layout.proofs.laws.layout_has_the_tokens_again.Goals as goal

pub returns : goal.returns
returns c text p l = layout_again text p l
