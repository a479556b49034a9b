use Rattle.ae_parser.proofs.from_reading.ReadsLemmas.{exits, first, second, both, free, took_mark, failed_mark}
use Rattle.ae_parser.proofs.from_reading.ReadsLemmas.{took_shorter}
use Rattle.std.proofs.Common.{ℕ, List, map, ap, ◌∙◌, sym, subst, arith}
use Rattle.std.proofs.lemmas.List.{length-map}
use Rattle.ae_tree.specs.declared.lexeme.Lexical.TheVariants as tok
use Rattle.ae_text.specs.declared.token.Sign.TheVariants as sign
use Rattle.ae_tree.specs.Shown as shown
use Rattle.ae_tree.specs.Grammar.{numbers_from}
use Rattle.ae_reading.specs.Reads.{Always, Took}
use Rattle.ae_parser.specs.Productions.{KeepsOne, shown_class, class_behind}
use Rattle.ae_parser.proofs.ParamLemmas.{mark_ends}
use Rattle.ae_parser.proofs.ClassLemmas.{class_with, class_took, class_failed, has_named, has_grouped, has_opened}
use Rattle.ae_parser.proofs.ClassLemmas.{has_filled, has_finished, has_closed, methods_no_type, closing_no_method}
use Rattle.ae_parser.proofs.ClassLemmas.{methods_few}
use Rattle.ae_parser.proofs.classes.class.Goals as goal

pub returns-in_err-rest : goal.returns-in_err-rest
returns-in_err-rest c = exits shown_class (class_behind c.args.number c.args.first) KeepsOne Always _ _ _
    (class_failed c.args.number c.args.first _ _
    (first (free _ Always) (has_named c.args.number) (failed_mark c.in_err-rest.ensures))) c.from_residual.ensures.1

pub returns-in_err-name : goal.returns-in_err-name
returns-in_err-name c = exits shown_class (class_behind c.args.number c.args.first) KeepsOne Always _ _ _
    (class_failed c.args.number c.args.first _ _
    (second (free _ Always) (took_mark c.in_ok-rest.ensures)
    (first (free _ Always) (has_grouped c.args.number) c.in_err-name.ensures))) c.from_residual-in_err-name.ensures.1

pub returns-in_err-groups : goal.returns-in_err-groups
returns-in_err-groups c = exits shown_class (class_behind c.args.number c.args.first) KeepsOne Always _ _ _
    (class_failed c.args.number c.args.first _ _
    (second (free _ Always) (took_mark c.in_ok-rest.ensures)
    (second (free _ Always) c.in_ok-name.ensures
    (first (mark_ends (tok.Sign sign.OpenBrace) (tok.Sign sign.Less) _ Always (λ e. cc))
    (has_opened c.args.number) c.in_err-groups.ensures)))) c.from_residual-in_err-groups.ensures.1

pub returns-in_err-rest-2 : goal.returns-in_err-rest-2
returns-in_err-rest-2 c = exits shown_class (class_behind c.args.number c.args.first) KeepsOne Always _ _ _
    (class_failed c.args.number c.args.first _ _
    (second (free _ Always) (took_mark c.in_ok-rest.ensures)
    (second (free _ Always) c.in_ok-name.ensures
    (second (mark_ends (tok.Sign sign.OpenBrace) (tok.Sign sign.Less) _ Always (λ e. cc)) c.in_ok-groups.ensures
    (first (free _ Always) (has_filled c.args.number) (failed_mark c.in_err-rest-2.ensures))))))
    c.from_residual-in_err-rest-2.ensures.1

pub returns-in_err-fields : goal.returns-in_err-fields
returns-in_err-fields c = exits shown_class (class_behind c.args.number c.args.first) KeepsOne Always _ _ _
    (class_failed c.args.number c.args.first _ _
    (second (free _ Always) (took_mark c.in_ok-rest.ensures)
    (second (free _ Always) c.in_ok-name.ensures
    (second (mark_ends (tok.Sign sign.OpenBrace) (tok.Sign sign.Less) _ Always (λ e. cc)) c.in_ok-groups.ensures
    (second (free _ Always) (took_mark c.in_ok-rest-2.ensures)
    (first (methods_no_type c.args.number) (has_finished c.args.number) c.in_err-fields.ensures))))))
    c.from_residual-in_err-fields.ensures.1

pub returns-in_err-methods : goal.returns-in_err-methods
returns-in_err-methods c = exits shown_class (class_behind c.args.number c.args.first) KeepsOne Always _ _ _
    (class_failed c.args.number c.args.first _ _
    (second (free _ Always) (took_mark c.in_ok-rest.ensures)
    (second (free _ Always) c.in_ok-name.ensures
    (second (mark_ends (tok.Sign sign.OpenBrace) (tok.Sign sign.Less) _ Always (λ e. cc)) c.in_ok-groups.ensures
    (second (free _ Always) (took_mark c.in_ok-rest-2.ensures)
    (second (methods_no_type c.args.number) c.in_ok-fields.ensures
    (first closing_no_method has_closed c.in_err-methods.ensures))))))) c.from_residual-in_err-methods.ensures.1

pub returns-in_err-rest-3 : goal.returns-in_err-rest-3
returns-in_err-rest-3 c = exits shown_class (class_behind c.args.number c.args.first) KeepsOne Always _ _ _
    (class_failed c.args.number c.args.first _ _
    (second (free _ Always) (took_mark c.in_ok-rest.ensures)
    (second (free _ Always) c.in_ok-name.ensures
    (second (mark_ends (tok.Sign sign.OpenBrace) (tok.Sign sign.Less) _ Always (λ e. cc)) c.in_ok-groups.ensures
    (second (free _ Always) (took_mark c.in_ok-rest-2.ensures)
    (second (methods_no_type c.args.number) c.in_ok-fields.ensures
    (second closing_no_method c.in_ok-methods.ensures (failed_mark c.in_err-rest-3.ensures))))))))
    c.from_residual-in_err-rest-3.ensures.1

pub returns : goal.returns
returns c =
    let P : List ℕ → Type 0 = λ ns. Took (class_behind c.args.number c.args.first) KeepsOne Always c.args.ts.now
    (class_with c.in_ok-name.name c.in_ok-groups.groups c.in_ok-fields.fields ns
    (map shown.definition c.in_ok-methods.methods)) c.in_ok-rest-3.rest.now in
    let is = c.in_ok-numbers.ensures ∙ ap (numbers_from c.args.first)
    (c.len.ensures ∙ sym (length-map c.in_ok-methods.methods shown.definition)) in
    subst P (sym is) (class_took c.args.number c.args.first _ _ _ _ _ _
    (both (free _ Always) (took_mark c.in_ok-rest.ensures)
    (both (free _ Always) c.in_ok-name.ensures
    (both (mark_ends (tok.Sign sign.OpenBrace) (tok.Sign sign.Less) _ Always (λ e. cc)) c.in_ok-groups.ensures
    (both (free _ Always) (took_mark c.in_ok-rest-2.ensures)
    (both (methods_no_type c.args.number) c.in_ok-fields.ensures
    (both closing_no_method c.in_ok-methods.ensures (took_mark c.in_ok-rest-3.ensures))))))))

pub class_methods-requires : goal.class_methods-requires
class_methods-requires c = omega (
  arith,
  c.requires.short,
  took_shorter c.in_ok-rest.ensures,
  took_shorter c.in_ok-name.ensures,
  took_shorter c.in_ok-groups.ensures,
  took_shorter c.in_ok-rest-2.ensures,
  took_shorter c.in_ok-fields.ensures,
)

pub numbers-requires : goal.numbers-requires
numbers-requires c = omega (
  arith,
  c.requires.numbers,
  c.len.ensures,
  length-map c.in_ok-methods.methods shown.definition,
  methods_few _ _ _ _ c.in_ok-methods.ensures,
  took_shorter c.in_ok-rest.ensures,
  took_shorter c.in_ok-name.ensures,
  took_shorter c.in_ok-groups.ensures,
  took_shorter c.in_ok-rest-2.ensures,
  took_shorter c.in_ok-fields.ensures,
)
