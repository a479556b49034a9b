use Rattle.std.proofs.Common.{◌≡◌, sym, subst, ap, ◌∙◌, refl, true, false, ◌∷◌, [], rules, w64, to_z, of_z}
use Rattle.ae_tree.specs.Plain.{Expression, Number}
use Rattle.ae_tree.specs.Shown.{expression-Int, expression-Bool, expression-Null}
use Rattle.ae_expressions.specs.Productions.{literal}
use Rattle.ae_tree.specs.declared.lexeme.Lexical.{Lexical}
use Rattle.ae_tree.specs.declared.lexeme.Lexical.TheVariants as tok
use Rattle.ae_expressions.proofs.expressions.literal_of.Goals as goal

pub returns-in-Int : goal.returns-in-Int
returns-in-Int c =
    let P : Expression → Type 0 = λ x. literal x (c.args.token.now ∷ []) in
    let fits : to_z w64 (of_z w64 c.in-Int.n) ≡ c.in-Int.n = search rules in
    subst P (sym (expression-Int _ _ ∙ ap (λ n. Number n c.args.token.now.at) fits))
    (refl, ap (λ (k : Lexical). record { kind = k; at = c.args.token.now.at } ∷ []) c.in-Int.is)

pub returns-in-True : goal.returns-in-True
returns-in-True c =
    let P : Expression → Type 0 = λ x. literal x (c.args.token.now ∷ []) in
    subst P (sym (expression-Bool true _)) (
      refl,
      ap (λ (k : Lexical). record { kind = k; at = c.args.token.now.at } ∷ [])
          (c.in-Word.is ∙ ap tok.Word c.in-True.is),
    )

pub returns-in-False : goal.returns-in-False
returns-in-False c =
    let P : Expression → Type 0 = λ x. literal x (c.args.token.now ∷ []) in
    subst P (sym (expression-Bool false _)) (
      refl,
      ap (λ (k : Lexical). record { kind = k; at = c.args.token.now.at } ∷ [])
          (c.in-Word.is ∙ ap tok.Word c.in-False.is),
    )

pub returns-in-Null : goal.returns-in-Null
returns-in-Null c =
    let P : Expression → Type 0 = λ x. literal x (c.args.token.now ∷ []) in
    subst P (sym (expression-Null _)) (
      refl,
      ap (λ (k : Lexical). record { kind = k; at = c.args.token.now.at } ∷ [])
          (c.in-Word.is ∙ ap tok.Word c.in-Null.is),
    )
