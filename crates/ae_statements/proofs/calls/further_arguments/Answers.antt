use Rattle.std.proofs.Common.{map}
use Rattle.ae_tree.specs.Shown as shown
use Rattle.ae_tree.specs.Grammar.{whole_expression, further, one_by_one}
use Rattle.ae_tree.specs.Limits.{AllKeepDepth, KeepsDepth}
use Rattle.ae_statements.proofs.from_reading.ReadsLemmas.{exits, mark_smaller}
use Rattle.ae_statements.proofs.from_reading.Parts.{Comma}
use Rattle.ae_expressions.specs.Ends.{Ends}
use Rattle.ae_statements.proofs.CallLemmas.{Closed, arguments_start, arguments_more, arguments_failed, arguments_end}
use Rattle.ae_statements.proofs.calls.further_arguments.Goals as goal

pub more-init : goal.more-init
more-init c = arguments_start _ _ c.new-args.ensures

pub returns-in_err-arg : goal.returns-in_err-arg
returns-in_err-arg c = exits (map shown.expression) (one_by_one (further whole_expression)) AllKeepDepth Closed _ _ _
    (arguments_failed _ _ _ _ c.more-test.ensures c.more.invariant c.in_err-arg.ensures) c.from_residual.ensures.1

pub more-smaller : goal.more-smaller
more-smaller c = mark_smaller Comma whole_expression KeepsDepth (Ends 0) _ _ _ c.in_ok-arg.ensures

pub more-preserved : goal.more-preserved
more-preserved c = arguments_more _ _ _ _ _ _ c.more-test.ensures c.in_ok-push.ensures.ok c.more.invariant
    c.in_ok-arg.ensures

pub returns : goal.returns
returns c = arguments_end _ _ _ c.more-test.ensures c.more.invariant
