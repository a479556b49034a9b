use Rattle.ae_rules.proofs.CallLemmas.{given_away_is_gone}
use Rattle.ae_rules.proofs.laws.given_away_is_gone.Goals as goal

pub returns : goal.returns
returns c = given_away_is_gone
