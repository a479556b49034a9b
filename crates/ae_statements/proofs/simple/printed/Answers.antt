use Rattle.std.proofs.Common.{sym, subst}
use Rattle.ae_tree.specs.Plain.{Action}
use Rattle.ae_tree.specs.Shown as shown
use Rattle.ae_tree.specs.Grammar.{whole_expression}
use Rattle.ae_reading.specs.Reads.{Always, Took}
use Rattle.ae_statements.proofs.from_reading.ReadsLemmas.{exits, took_as, failed_as}
use Rattle.ae_statements.specs.Productions.{with_semicolon, print_operand, KeepsPrinted}
use Rattle.ae_tree.specs.Shown.{action-Let, action-Group, action-Freeze, action-Share, action-Assert}
use Rattle.ae_tree.specs.Shown.{action-PrintExpr, action-PrintText}
use Rattle.ae_tree.specs.Plain.{Prints}
use Rattle.ae_statements.proofs.SimpleLemmas.{shown_along}
use Rattle.ae_statements.proofs.simple.printed.Goals as goal

pub returns-in_err-e : goal.returns-in_err-e
returns-in_err-e c = exits shown.action print_operand KeepsPrinted Always _ _ _
    (failed_as print_operand (with_semicolon whole_expression) Prints (shown_along _ c.if-is_text_next.ensures)
    c.in_err-e.ensures) c.from_residual.ensures.1

pub returns : goal.returns
returns c =
    let P : Action → Type 0 = λ a. Took print_operand KeepsPrinted Always c.args.ts.now a c.in_ok-e.rest.now in
    subst P (sym (action-PrintExpr _))
    (took_as print_operand (with_semicolon whole_expression) Prints (shown_along _ c.if-is_text_next.ensures)
    c.in_ok-e.ensures)
