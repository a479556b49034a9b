use Rattle.ae_rules.proofs.MoveLemmas.{moves_by_its_text}
use Rattle.ae_rules.proofs.laws.moves_are_told_by_the_text.Goals as goal

pub returns : goal.returns
returns c = moves_by_its_text
