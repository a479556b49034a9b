use Rattle.std.proofs.Common.{drop, sym, ◌+◌}
use Rattle.ae_tree.specs.Shown.{code}
use Rattle.ae_rules.specs.Verdict.{in_turn}
use Rattle.ae_rules.specs.Lookups.{has_name}
use Rattle.ae_rules.specs.Table.{param_holds}
use Rattle.ae_classes.proofs.TurnLemmas.{a_turn_breaks, one_turn_more, left_by_that_error, element_and_rest}
use Rattle.ae_classes.proofs.declarations.params_hold.Goals as goal

pub returns-in_err-param_holds : goal.returns-in_err-param_holds
returns-in_err-param_holds c =
    let f = param_holds (code c.args.program.now) (has_name c.args.known.now) in
    let params = c.args.params.now in
    let i = c.loop-param.param-index in
    left_by_that_error (in_turn f params (has_name c.args.earlier.now)) (has_name c.param_holds.new.earlier)
    c.in_err-param_holds.field-0.0 c.from_residual.result
    (a_turn_breaks f c.param-item.result (drop (i + 1) params) (drop i params)
    (in_turn f params (has_name c.args.earlier.now)) (has_name c.loop-param.earlier)
    (has_name c.param_holds.new.earlier)
    c.in_err-param_holds.field-0.0
    (sym (element_and_rest params i c.param-item.result c.loop-param-test.true c.param-item.is))
    c.loop-param.invariant c.in_err-param_holds.ensures)
    c.from_residual.ensures.1

pub loop-param-preserved : goal.loop-param-preserved
loop-param-preserved c =
    let f = param_holds (code c.args.program.now) (has_name c.args.known.now) in
    let params = c.args.params.now in
    let i = c.loop-param.param-index in
    one_turn_more f c.param-item.result (drop (i + 1) params) (drop i params)
    (in_turn f params (has_name c.args.earlier.now)) (has_name c.loop-param.earlier)
    (has_name c.param_holds.new.earlier)
    (sym (element_and_rest params i c.param-item.result c.loop-param-test.true c.param-item.is))
    c.loop-param.invariant
    c.in_ok-param_holds.ensures
