use Rattle.std.proofs.Common.{sym, subst}
use Rattle.ae_tree.specs.Plain.{Action}
use Rattle.ae_tree.specs.Shown as shown
use Rattle.ae_reading.specs.Reads.{Always, Took}
use Rattle.ae_statements.proofs.from_reading.ReadsLemmas.{exits, took_as, failed_as}
use Rattle.ae_statements.specs.Productions.{with_semicolon, text, print_operand, KeepsPrinted}
use Rattle.ae_statements.proofs.ShapeLemmas.{suf_first, suf_second, took_suf, always}
use Rattle.ae_tree.specs.Shown.{action-Let, action-Group, action-Freeze, action-Share, action-Assert}
use Rattle.ae_tree.specs.Shown.{action-PrintExpr, action-PrintText}
use Rattle.ae_statements.proofs.SimpleLemmas.{texted, text_along}
use Rattle.ae_statements.proofs.simple.printed_text.Goals as goal

pub returns-in_err-bytes : goal.returns-in_err-bytes
returns-in_err-bytes c = exits shown.action print_operand KeepsPrinted Always _ _ _
    (failed_as print_operand (with_semicolon text) texted (text_along _ c.requires)
    (suf_first text (always _) tt c.in_err-bytes.ensures)) c.from_residual.ensures.1

pub returns-in_err-rest : goal.returns-in_err-rest
returns-in_err-rest c = exits shown.action print_operand KeepsPrinted Always _ _ _
    (failed_as print_operand (with_semicolon text) texted (text_along _ c.requires)
    (suf_second text (always _) c.in_ok-bytes.ensures c.in_err-rest.ensures)) c.from_residual-in_err-rest.ensures.1

pub returns : goal.returns
returns c =
    let P : Action → Type 0 = λ a. Took print_operand KeepsPrinted Always c.args.ts.now a c.in_ok-rest.rest.now in
    subst P (sym (action-PrintText _))
    (took_as print_operand (with_semicolon text) texted (text_along _ c.requires)
    (took_suf text (always _) c.in_ok-bytes.ensures c.in_ok-rest.ensures))
