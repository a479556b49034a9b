use Rattle.ae_parser.proofs.from_reading.ReadsLemmas.{exits, first, second, both, free}
use Rattle.ae_tree.specs.Grammar.{me}
use Rattle.ae_reading.specs.Reads.{itself, Free}
use Rattle.ae_parser.proofs.ParamLemmas.{NoAway, has_this, has_away, me_took, me_failed}
use Rattle.ae_parser.proofs.params.receiver.Goals as goal

pub returns-in_err-perm : goal.returns-in_err-perm
returns-in_err-perm c = exits itself me Free NoAway _ _ _
    (me_failed _ _ (first (free _ NoAway) has_this c.in_err-perm.ensures)) c.from_residual.ensures.1

pub returns-in_err-at : goal.returns-in_err-at
returns-in_err-at c = exits itself me Free NoAway _ _ _
    (me_failed _ _ (second (free _ NoAway) c.in_ok-perm.ensures (first (free _ NoAway) has_away c.in_err-at.ensures)))
    c.from_residual-in_err-at.ensures.1

pub returns-in_err-away : goal.returns-in_err-away
returns-in_err-away c = exits itself me Free NoAway _ _ _
    (me_failed _ _ (second (free _ NoAway) c.in_ok-perm.ensures
    (second (free _ NoAway) c.in_ok-at.ensures c.in_err-away.ensures))) c.from_residual-in_err-away.ensures.1

pub returns : goal.returns
returns c = me_took _ _ _ (both (free _ NoAway) c.in_ok-perm.ensures
    (both (free _ NoAway) c.in_ok-at.ensures c.in_ok-away.ensures))
