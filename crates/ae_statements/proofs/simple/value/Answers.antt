use Rattle.ae_tree.specs.Shown as shown
use Rattle.ae_tree.specs.Grammar.{right_of_equals}
use Rattle.ae_tree.specs.Limits.{KeepsRight}
use Rattle.ae_reading.specs.Reads.{Always}
use Rattle.ae_statements.proofs.from_reading.ReadsLemmas.{exits, passes}
use Rattle.ae_statements.specs.Productions.{with_semicolon, local_value}
use Rattle.ae_statements.proofs.ShapeLemmas.{pre_first, pre_second, took_pre}
use Rattle.ae_tree.specs.Shown.{action-Let, action-Group, action-Freeze, action-Share, action-Assert}
use Rattle.ae_tree.specs.Shown.{action-PrintExpr, action-PrintText}
use Rattle.ae_statements.proofs.SimpleLemmas.{has_ended, has_right_side}
use Rattle.ae_statements.proofs.simple.value.Goals as goal

pub returns-in_err-rest : goal.returns-in_err-rest
returns-in_err-rest c = exits shown.right_side local_value KeepsRight Always _ _ _
    (pre_first (with_semicolon right_of_equals) (has_ended right_of_equals has_right_side) c.in_err-rest.ensures)
    c.from_residual.ensures.1

pub returns : goal.returns
returns c = passes shown.right_side (with_semicolon right_of_equals) local_value KeepsRight KeepsRight Always Always _
    _ _
    (λ x rest s. took_pre (with_semicolon right_of_equals) c.in_ok-rest.ensures s)
    (λ e s. pre_second (with_semicolon right_of_equals) c.in_ok-rest.ensures s) c.right_side.ensures
