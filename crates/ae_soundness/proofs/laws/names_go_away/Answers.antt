use Rattle.ae_soundness.proofs.AwayLemmas.{names_go_away}
use Rattle.ae_soundness.proofs.laws.names_go_away.Goals as goal

pub returns : goal.returns
returns c = names_go_away c.calls_give_back.ensures c.given_away_is_gone.ensures
