use Rattle.std.proofs.Common.{◌<◌, ◌≤◌, length, arith}
use Rattle.ae_tree.specs.Grammar.{param, one_by_one, further}
use Rattle.ae_reading.specs.Reads.{itself}
use Rattle.ae_parser.proofs.from_reading.ReadsLemmas.{exits, took_mark}
use Rattle.ae_parser.proofs.from_reading.Parts.{further_second}
use Rattle.ae_parser.specs.Productions.{AtMostParams}
use Rattle.ae_parser.proofs.ParamLemmas.{Closing, params_start, comma_there, params_more, params_failed, params_full}
use Rattle.ae_parser.proofs.ParamLemmas.{params_end, param_smaller}
use Rattle.ae_parser.proofs.params.further_params.Goals as goal

pub params-init : goal.params-init
params-init c = params_start _ _ c.new-params.ensures

pub returns-in_err-behind : goal.returns-in_err-behind
returns-in_err-behind c = exits itself (one_by_one (further param)) (AtMostParams 15) Closing _ _ _
    (comma_there _ _ _ c.params-test.ensures c.in_err-behind.ensures) c.from_residual.ensures.1

pub returns-then-len-ge-MOST_FURTHER : goal.returns-then-len-ge-MOST_FURTHER
returns-then-len-ge-MOST_FURTHER c =
    let full : 15 ≤ length c.params.params = omega (arith, c.if-len-ge-MOST_FURTHER.true, c.len.ensures) in
    record { why = params_full _ _ _ _ _ _ full c.no_param.ensures c.in_ok-behind.ensures c.params.invariant }

pub returns-in_err-param : goal.returns-in_err-param
returns-in_err-param c =
    let few : length c.params.params < 15 = omega (arith, c.if-len-ge-MOST_FURTHER.false, c.len.ensures) in
    exits itself (one_by_one (further param)) (AtMostParams 15) Closing _ _ _
    (params_failed _ _ _ _ c.params-test.ensures few c.params.invariant
    (further_second (took_mark c.in_ok-behind.ensures) c.in_err-param.ensures))
    c.from_residual-in_err-param.ensures.1

pub params-smaller : goal.params-smaller
params-smaller c = param_smaller _ _ _ _ _ c.in_ok-behind.ensures c.in_ok-param.ensures

pub params-preserved : goal.params-preserved
params-preserved c =
    let few : length c.params.params < 15 = omega (arith, c.if-len-ge-MOST_FURTHER.false, c.len.ensures) in
    params_more _ _ _ _ _ _ _ c.params-test.ensures few c.in_ok-push.ensures.ok c.params.invariant
    (took_mark c.in_ok-behind.ensures) c.in_ok-param.ensures

pub returns : goal.returns
returns c = params_end _ _ _ c.params-test.ensures c.params.invariant
