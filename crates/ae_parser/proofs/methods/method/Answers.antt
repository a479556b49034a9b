use Rattle.ae_parser.proofs.from_reading.ReadsLemmas.{exits, first, second, both, free, took_mark, failed_mark}
use Rattle.ae_parser.proofs.from_reading.ReadsLemmas.{took_shorter}
use Rattle.std.proofs.Common.{ℕ, sym, subst, arith}
use Rattle.ae_tree.specs.declared.lexeme.Lexical.TheVariants as tok
use Rattle.ae_text.specs.declared.token.Sign.TheVariants as sign
use Rattle.ae_tree.specs.Grammar.{method}
use Rattle.ae_tree.specs.Limits.{KeepsMethod}
use Rattle.ae_tree.specs.Shown as shown
use Rattle.ae_reading.specs.Reads.{Always, Took}
use Rattle.ae_parser.proofs.ParamLemmas.{named_ends, mark_ends, mark_is}
use Rattle.ae_parser.proofs.MethodLemmas.{method_with, method_took, method_failed, has_returned, has_named}
use Rattle.ae_parser.proofs.MethodLemmas.{has_grouped, has_opened, has_filled, has_closed, has_needed, has_body}
use Rattle.ae_parser.proofs.MethodLemmas.{body_opens}
use Rattle.ae_parser.proofs.methods.method.Goals as goal

pub returns-in_err-rest : goal.returns-in_err-rest
returns-in_err-rest c = exits shown.definition (method c.args.class) KeepsMethod Always _ _ _
    (method_failed c.args.class _ _
    (first (free _ Always) (has_returned c.args.class) (failed_mark c.in_err-rest.ensures))) c.from_residual.ensures.1

pub returns-in_err-ty : goal.returns-in_err-ty
returns-in_err-ty c = exits shown.definition (method c.args.class) KeepsMethod Always _ _ _
    (method_failed c.args.class _ _
    (second (free _ Always) (took_mark c.in_ok-rest.ensures)
    (first (named_ends _ Always) (has_named c.args.class) c.in_err-ty.ensures))) c.from_residual-in_err-ty.ensures.1

pub returns-in_err-name : goal.returns-in_err-name
returns-in_err-name c = exits shown.definition (method c.args.class) KeepsMethod Always _ _ _
    (method_failed c.args.class _ _
    (second (free _ Always) (took_mark c.in_ok-rest.ensures)
    (second (named_ends _ Always) c.in_ok-ty.ensures
    (first (free _ Always) (has_grouped c.args.class) c.in_err-name.ensures)))) c.from_residual-in_err-name.ensures.1

pub returns-in_err-groups : goal.returns-in_err-groups
returns-in_err-groups c = exits shown.definition (method c.args.class) KeepsMethod Always _ _ _
    (method_failed c.args.class _ _
    (second (free _ Always) (took_mark c.in_ok-rest.ensures)
    (second (named_ends _ Always) c.in_ok-ty.ensures
    (second (free _ Always) c.in_ok-name.ensures
    (first (mark_ends (tok.Sign sign.OpenParen) (tok.Sign sign.Less) _ Always (λ e. cc))
    (has_opened c.args.class) c.in_err-groups.ensures))))) c.from_residual-in_err-groups.ensures.1

pub returns-in_err-rest-2 : goal.returns-in_err-rest-2
returns-in_err-rest-2 c = exits shown.definition (method c.args.class) KeepsMethod Always _ _ _
    (method_failed c.args.class _ _
    (second (free _ Always) (took_mark c.in_ok-rest.ensures)
    (second (named_ends _ Always) c.in_ok-ty.ensures
    (second (free _ Always) c.in_ok-name.ensures
    (second (mark_ends (tok.Sign sign.OpenParen) (tok.Sign sign.Less) _ Always (λ e. cc)) c.in_ok-groups.ensures
    (first (free _ Always) (has_filled c.args.class) (failed_mark c.in_err-rest-2.ensures)))))))
    c.from_residual-in_err-rest-2.ensures.1

pub returns-in_err-given : goal.returns-in_err-given
returns-in_err-given c = exits shown.definition (method c.args.class) KeepsMethod Always _ _ _
    (method_failed c.args.class _ _
    (second (free _ Always) (took_mark c.in_ok-rest.ensures)
    (second (named_ends _ Always) c.in_ok-ty.ensures
    (second (free _ Always) c.in_ok-name.ensures
    (second (mark_ends (tok.Sign sign.OpenParen) (tok.Sign sign.Less) _ Always (λ e. cc)) c.in_ok-groups.ensures
    (second (free _ Always) (took_mark c.in_ok-rest-2.ensures)
    (first (mark_is (tok.Sign sign.CloseParen) _ Always) has_closed c.in_err-given.ensures)))))))
    c.from_residual-in_err-given.ensures.1

pub returns-in_err-rest-3 : goal.returns-in_err-rest-3
returns-in_err-rest-3 c = exits shown.definition (method c.args.class) KeepsMethod Always _ _ _
    (method_failed c.args.class _ _
    (second (free _ Always) (took_mark c.in_ok-rest.ensures)
    (second (named_ends _ Always) c.in_ok-ty.ensures
    (second (free _ Always) c.in_ok-name.ensures
    (second (mark_ends (tok.Sign sign.OpenParen) (tok.Sign sign.Less) _ Always (λ e. cc)) c.in_ok-groups.ensures
    (second (free _ Always) (took_mark c.in_ok-rest-2.ensures)
    (second (mark_is (tok.Sign sign.CloseParen) _ Always) c.in_ok-given.ensures
    (first (free _ Always) has_needed (failed_mark c.in_err-rest-3.ensures)))))))))
    c.from_residual-in_err-rest-3.ensures.1

pub returns-in_err-needs : goal.returns-in_err-needs
returns-in_err-needs c = exits shown.definition (method c.args.class) KeepsMethod Always _ _ _
    (method_failed c.args.class _ _
    (second (free _ Always) (took_mark c.in_ok-rest.ensures)
    (second (named_ends _ Always) c.in_ok-ty.ensures
    (second (free _ Always) c.in_ok-name.ensures
    (second (mark_ends (tok.Sign sign.OpenParen) (tok.Sign sign.Less) _ Always (λ e. cc)) c.in_ok-groups.ensures
    (second (free _ Always) (took_mark c.in_ok-rest-2.ensures)
    (second (mark_is (tok.Sign sign.CloseParen) _ Always) c.in_ok-given.ensures
    (second (free _ Always) (took_mark c.in_ok-rest-3.ensures)
    (first body_opens has_body c.in_err-needs.ensures))))))))) c.from_residual-in_err-needs.ensures.1

pub returns-in_err-body : goal.returns-in_err-body
returns-in_err-body c = exits shown.definition (method c.args.class) KeepsMethod Always _ _ _
    (method_failed c.args.class _ _
    (second (free _ Always) (took_mark c.in_ok-rest.ensures)
    (second (named_ends _ Always) c.in_ok-ty.ensures
    (second (free _ Always) c.in_ok-name.ensures
    (second (mark_ends (tok.Sign sign.OpenParen) (tok.Sign sign.Less) _ Always (λ e. cc)) c.in_ok-groups.ensures
    (second (free _ Always) (took_mark c.in_ok-rest-2.ensures)
    (second (mark_is (tok.Sign sign.CloseParen) _ Always) c.in_ok-given.ensures
    (second (free _ Always) (took_mark c.in_ok-rest-3.ensures)
    (second body_opens c.in_ok-needs.ensures c.in_err-body.ensures.reads)))))))))
    c.from_residual-in_err-body.ensures.1

pub returns : goal.returns
returns c =
    let P : ℕ → Type 0 = λ n. Took (method c.args.class) KeepsMethod Always c.args.ts.now
    (method_with c.args.class c.in_ok-ty.ty c.in_ok-name.name c.in_ok-groups.groups c.in_ok-given.given
    c.in_ok-needs.needs n (shown.lines c.in_ok-body.body)) c.in_ok-body.rest.now in
    subst P (sym c.in_ok-body.ensures.number)
    (method_took c.args.class _ _ _ _ _ _ _ _
    (both (free _ Always) (took_mark c.in_ok-rest.ensures)
    (both (named_ends _ Always) c.in_ok-ty.ensures
    (both (free _ Always) c.in_ok-name.ensures
    (both (mark_ends (tok.Sign sign.OpenParen) (tok.Sign sign.Less) _ Always (λ e. cc)) c.in_ok-groups.ensures
    (both (free _ Always) (took_mark c.in_ok-rest-2.ensures)
    (both (mark_is (tok.Sign sign.CloseParen) _ Always) c.in_ok-given.ensures
    (both (free _ Always) (took_mark c.in_ok-rest-3.ensures)
    (both body_opens c.in_ok-needs.ensures c.in_ok-body.ensures.reads)))))))))

pub body-requires : goal.body-requires
body-requires c = omega (
  arith,
  c.requires,
  took_shorter c.in_ok-rest.ensures,
  took_shorter c.in_ok-ty.ensures,
  took_shorter c.in_ok-name.ensures,
  took_shorter c.in_ok-groups.ensures,
  took_shorter c.in_ok-rest-2.ensures,
  took_shorter c.in_ok-given.ensures,
  took_shorter c.in_ok-rest-3.ensures,
  took_shorter c.in_ok-needs.ensures,
)
