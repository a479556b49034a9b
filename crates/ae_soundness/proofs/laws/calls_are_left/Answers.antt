use Rattle.ae_soundness.proofs.LeaveLemmas.{calls_are_left}
use Rattle.ae_soundness.proofs.laws.calls_are_left.Goals as goal

pub returns : goal.returns
returns c = calls_are_left c.calls_give_back.ensures c.given_away_is_gone.ensures c.every_slot_is_given.ensures
