use Rattle.ae_tree.specs.Shown as shown
use Rattle.ae_tree.specs.Grammar.{right_of_equals}
use Rattle.ae_tree.specs.Limits.{KeepsRight}
use Rattle.ae_reading.specs.Reads.{Always}
use Rattle.ae_statements.proofs.from_reading.ReadsLemmas.{exits}
use Rattle.ae_statements.specs.Productions.{with_semicolon}
use Rattle.ae_statements.proofs.ReturnedLemmas.{path_failed, call_took_at, call_failed_at}
use Rattle.ae_statements.proofs.values.call.Goals as goal

pub returns-in_err-path : goal.returns-in_err-path
returns-in_err-path c = exits shown.right_side (with_semicolon right_of_equals) KeepsRight Always _ _ _
    (path_failed _ _ c.requires c.in_err-path.ensures) c.from_residual.ensures.1

pub returns-in_err-groups : goal.returns-in_err-groups
returns-in_err-groups c = exits shown.right_side (with_semicolon right_of_equals) KeepsRight Always _ _ _
    (call_failed_at _ _ _ _ c.requires c.in_ok-path.ensures c.in_err-groups.ensures)
    c.from_residual-in_err-groups.ensures.1

pub returns : goal.returns
returns c = call_took_at _ _ _ _ _ _ c.requires c.in_ok-path.ensures c.in_ok-groups.ensures c.invoke.ensures
