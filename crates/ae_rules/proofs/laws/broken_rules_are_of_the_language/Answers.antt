use Rattle.ae_rules.proofs.OfLanguageLemmas.{broken_is_of_language}
use Rattle.ae_rules.proofs.laws.broken_rules_are_of_the_language.Goals as goal

pub returns : goal.returns
returns c = broken_is_of_language
