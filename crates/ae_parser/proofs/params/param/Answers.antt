use Rattle.ae_parser.proofs.from_reading.ReadsLemmas.{exits, first, second, both, free}
use Rattle.ae_tree.specs.Grammar.{param, away}
use Rattle.ae_reading.specs.Reads.{itself, Free}
use Rattle.ae_parser.proofs.ParamLemmas.{NoAway, named_ends, has_named, has_away, param_took, param_failed}
use Rattle.ae_parser.proofs.params.param.Goals as goal

pub returns-in_err-ty : goal.returns-in_err-ty
returns-in_err-ty c = exits itself param Free NoAway _ _ _
    (param_failed _ _ (first (named_ends away NoAway) has_named c.in_err-ty.ensures)) c.from_residual.ensures.1

pub returns-in_err-name : goal.returns-in_err-name
returns-in_err-name c = exits itself param Free NoAway _ _ _
    (param_failed _ _ (second (named_ends away NoAway) c.in_ok-ty.ensures
    (first (free _ NoAway) has_away c.in_err-name.ensures))) c.from_residual-in_err-name.ensures.1

pub returns-in_err-away : goal.returns-in_err-away
returns-in_err-away c = exits itself param Free NoAway _ _ _
    (param_failed _ _ (second (named_ends away NoAway) c.in_ok-ty.ensures
    (second (free _ NoAway) c.in_ok-name.ensures c.in_err-away.ensures))) c.from_residual-in_err-away.ensures.1

pub returns : goal.returns
returns c = param_took _ _ _ (both (named_ends away NoAway) c.in_ok-ty.ensures
    (both (free _ NoAway) c.in_ok-name.ensures c.in_ok-away.ensures))
