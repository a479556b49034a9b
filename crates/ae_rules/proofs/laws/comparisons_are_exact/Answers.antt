use Rattle.ae_rules.proofs.ShapeLemmas.{comparisons_are_exact}
use Rattle.ae_rules.proofs.laws.comparisons_are_exact.Goals as goal

pub returns : goal.returns
returns c = comparisons_are_exact
