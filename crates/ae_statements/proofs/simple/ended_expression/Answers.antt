use Rattle.ae_text.specs.declared.token.Sign.TheVariants as sign
use Rattle.std.proofs.Common.{refl}
use Rattle.ae_tree.specs.Grammar.{whole_expression}
use Rattle.ae_tree.specs.Limits.{KeepsDepth}
use Rattle.ae_tree.specs.Shown as shown
use Rattle.ae_reading.specs.Reads.{Always}
use Rattle.ae_statements.proofs.from_reading.ReadsLemmas.{exits}
use Rattle.ae_statements.specs.Productions.{with_semicolon}
use Rattle.ae_statements.proofs.ShapeLemmas.{suf_first, suf_second, took_suf, sign_ends}
use Rattle.ae_statements.proofs.simple.ended_expression.Goals as goal

pub returns-in_err-e : goal.returns-in_err-e
returns-in_err-e c = exits shown.expression (with_semicolon whole_expression) KeepsDepth Always _ _ _
    (suf_first whole_expression (sign_ends sign.Semicolon refl) tt c.in_err-e.ensures) c.from_residual.ensures.1

pub returns-in_err-rest : goal.returns-in_err-rest
returns-in_err-rest c = exits shown.expression (with_semicolon whole_expression) KeepsDepth Always _ _ _
    (suf_second whole_expression (sign_ends sign.Semicolon refl) c.in_ok-e.ensures c.in_err-rest.ensures)
    c.from_residual-in_err-rest.ensures.1

pub returns : goal.returns
returns c = took_suf whole_expression (sign_ends sign.Semicolon refl) c.in_ok-e.ensures c.in_ok-rest.ensures
