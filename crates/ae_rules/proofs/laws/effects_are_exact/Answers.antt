use Rattle.ae_rules.proofs.EffectLemmas.{effects_are_exact}
use Rattle.ae_rules.proofs.laws.effects_are_exact.Goals as goal

pub returns : goal.returns
returns c = effects_are_exact
