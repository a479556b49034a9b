use Rattle.std.proofs.Common.{refl}
use Rattle.ae_text.specs.declared.token.Sign.TheVariants as sign
use Rattle.ae_tree.specs.declared.lexeme.Lexical.TheVariants as tok
use Rattle.ae_tree.specs.Shown as shown
use Rattle.ae_tree.specs.Grammar.{whole_expression}
use Rattle.ae_tree.specs.Limits.{KeepsDepth}
use Rattle.ae_reading.specs.Reads.{Always}
use Rattle.ae_statements.proofs.from_reading.ReadsLemmas.{exits}
use Rattle.ae_statements.specs.Productions.{with_semicolon, sized}
use Rattle.ae_statements.proofs.ShapeLemmas.{Suf, pre_first, pre_second, took_pre, suf_first, suf_second, took_suf}
use Rattle.ae_statements.proofs.ShapeLemmas.{sign_ends, always}
use Rattle.ae_statements.proofs.MadeLemmas.{parted, has_parted, has_closed}
use Rattle.ae_statements.proofs.values.length.Goals as goal

pub returns-in_err-rest : goal.returns-in_err-rest
returns-in_err-rest c = exits shown.expression (with_semicolon sized) KeepsDepth Always _ _ _
    (suf_first sized {F = Always} (always _) tt (pre_first parted has_parted c.in_err-rest.ensures))
    c.from_residual.ensures.1

pub returns-in_err-rest-2 : goal.returns-in_err-rest-2
returns-in_err-rest-2 c = exits shown.expression (with_semicolon sized) KeepsDepth Always _ _ _
    (suf_first sized {F = Always} (always _) tt
    (pre_second parted c.in_ok-rest.ensures
    (pre_first (Suf whole_expression (tok.Sign sign.CloseParen)) has_closed c.in_err-rest-2.ensures)))
    c.from_residual-in_err-rest-2.ensures.1

pub returns-in_err-e : goal.returns-in_err-e
returns-in_err-e c = exits shown.expression (with_semicolon sized) KeepsDepth Always _ _ _
    (suf_first sized {F = Always} (always _) tt
    (pre_second parted c.in_ok-rest.ensures
    (pre_second (Suf whole_expression (tok.Sign sign.CloseParen)) c.in_ok-rest-2.ensures
    (suf_first whole_expression (sign_ends sign.CloseParen refl) tt c.in_err-e.ensures))))
    c.from_residual-in_err-e.ensures.1

pub returns-in_err-rest-3 : goal.returns-in_err-rest-3
returns-in_err-rest-3 c = exits shown.expression (with_semicolon sized) KeepsDepth Always _ _ _
    (suf_first sized {F = Always} (always _) tt
    (pre_second parted c.in_ok-rest.ensures
    (pre_second (Suf whole_expression (tok.Sign sign.CloseParen)) c.in_ok-rest-2.ensures
    (suf_second whole_expression (sign_ends sign.CloseParen refl) c.in_ok-e.ensures c.in_err-rest-3.ensures))))
    c.from_residual-in_err-rest-3.ensures.1

pub returns-in_err-rest-4 : goal.returns-in_err-rest-4
returns-in_err-rest-4 c = exits shown.expression (with_semicolon sized) KeepsDepth Always _ _ _
    (suf_second sized (always _) (took_pre parted c.in_ok-rest.ensures
    (took_pre (Suf whole_expression (tok.Sign sign.CloseParen)) c.in_ok-rest-2.ensures
    (took_suf whole_expression (sign_ends sign.CloseParen refl) c.in_ok-e.ensures c.in_ok-rest-3.ensures)))
    c.in_err-rest-4.ensures) c.from_residual-in_err-rest-4.ensures.1

pub returns : goal.returns
returns c = took_suf sized (always _)
    (took_pre parted c.in_ok-rest.ensures
    (took_pre (Suf whole_expression (tok.Sign sign.CloseParen)) c.in_ok-rest-2.ensures
    (took_suf whole_expression (sign_ends sign.CloseParen refl) c.in_ok-e.ensures c.in_ok-rest-3.ensures)))
    c.in_ok-rest-4.ensures
