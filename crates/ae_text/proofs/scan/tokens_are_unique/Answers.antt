use Rattle.ae_text.proofs.CutLemmas.{lexes_unique}
use Rattle.ae_text.proofs.scan.tokens_are_unique.Goals as goal

pub returns : goal.returns
returns c = lexes_unique
