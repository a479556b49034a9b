use Rattle.ae_rules.proofs.PredLemmas.{mode_tests_are_exact}
use Rattle.ae_rules.proofs.laws.mode_tests_are_exact.Goals as goal

pub returns : goal.returns
returns c = mode_tests_are_exact
