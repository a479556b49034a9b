use Rattle.ae_tree.specs.Shown as shown
use Rattle.ae_tree.specs.Grammar.{whole_expression}
use Rattle.ae_tree.specs.Limits.{KeepsDepth}
use Rattle.ae_reading.specs.Reads.{Always}
use Rattle.ae_statements.proofs.from_reading.ReadsLemmas.{exits, passes}
use Rattle.ae_statements.specs.Productions.{with_semicolon}
use Rattle.ae_statements.proofs.ShapeLemmas.{pre_first, pre_second, took_pre, has_whole}
use Rattle.ae_tree.specs.Shown.{action-Assign, action-Field, action-Index, action-Call}
use Rattle.ae_statements.specs.Productions.{stored_value}
use Rattle.ae_statements.proofs.SimpleLemmas.{has_ended}
use Rattle.ae_statements.proofs.led.stored.Goals as goal

pub returns-in_err-rest : goal.returns-in_err-rest
returns-in_err-rest c = exits shown.expression stored_value KeepsDepth Always _ _ _
    (pre_first (with_semicolon whole_expression) (has_ended whole_expression has_whole) c.in_err-rest.ensures)
    c.from_residual.ensures.1

pub returns : goal.returns
returns c = passes shown.expression (with_semicolon whole_expression) stored_value KeepsDepth KeepsDepth Always Always
    _ _ _
    (λ x rest s. took_pre (with_semicolon whole_expression) c.in_ok-rest.ensures s)
    (λ e s. pre_second (with_semicolon whole_expression) c.in_ok-rest.ensures s) c.ended_expression.ensures
