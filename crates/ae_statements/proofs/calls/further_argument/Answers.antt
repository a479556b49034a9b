use Rattle.ae_tree.specs.Shown as shown
use Rattle.ae_tree.specs.Grammar.{whole_expression, further}
use Rattle.ae_tree.specs.Limits.{KeepsDepth}
use Rattle.ae_statements.proofs.from_reading.ReadsLemmas.{exits, passes}
use Rattle.ae_expressions.specs.Ends.{Ends}
use Rattle.ae_statements.proofs.ShapeLemmas.{pre_first, pre_second, took_pre, has_whole}
use Rattle.ae_statements.proofs.calls.further_argument.Goals as goal

pub returns-in_err-rest : goal.returns-in_err-rest
returns-in_err-rest c = exits shown.expression (further whole_expression) KeepsDepth (Ends 0) _ _ _
    (pre_first whole_expression has_whole c.in_err-rest.ensures) c.from_residual.ensures.1

pub returns : goal.returns
returns c = passes shown.expression whole_expression (further whole_expression) KeepsDepth KeepsDepth (Ends 0)
    (Ends 0) _ _ _
    (λ x rest s. took_pre whole_expression c.in_ok-rest.ensures s)
    (λ e s. pre_second whole_expression c.in_ok-rest.ensures s) c.expression.ensures
