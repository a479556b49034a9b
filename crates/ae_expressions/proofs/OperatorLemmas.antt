-- The operators, by sign and level, and the tokens that may follow an expression.
use Rattle.std.proofs.Common.{◌≡◌, ℕ, ◌+◌, ◌≤◌, ◌<◌, ◌++◌, Option, Some, None, refl, sym, ap, ◌∙◌, arith, subst}
use Rattle.ae_text.specs.declared.refusal.Spot.{Spot}
use Rattle.ae_text.specs.declared.token.Sign.{Sign}
use Rattle.ae_text.specs.declared.token.Sign.TheVariants as sign
use Rattle.ae_tree.specs.declared.lexeme.Lexeme.{Lexeme}
use Rattle.ae_tree.specs.declared.lexeme.Lexical.TheVariants as tok
use Rattle.ae_tree.specs.declared.tree.Op.{Op}
use Rattle.ae_tree.specs.declared.tree.Op.TheVariants as op
use Rattle.ae_tree.specs.Grammar.{Tokens, ◌⨾◌, level, left_level, sign_of, a_sign}
use Rattle.ae_reading.specs.Reads.{head, Is}
use Rattle.ae_expressions.proofs.from_reading.Begins.{of_kind}
use Rattle.ae_expressions.specs.Ends.{Ends}
use Rattle.ae_expressions.specs.Productions.{IsOperator, operator_of, IsClosing}

pub operator_back : (o : Op) → operator_of (sign_of o) ≡ Some o
operator_back op.Or = refl
operator_back op.And = refl
operator_back op.Eq = refl
operator_back op.Ne = refl
operator_back op.Lt = refl
operator_back op.Le = refl
operator_back op.Gt = refl
operator_back op.Ge = refl
operator_back op.Add = refl
operator_back op.Sub = refl
operator_back op.Mul = refl
operator_back op.Div = refl
operator_back op.Rem = refl

-- two operators with one sign are one
pub same_operator : (o p : Op) → tok.Sign (sign_of o) ≡ tok.Sign (sign_of p) → o ≡ p
same_operator o p e =
    let signs : sign_of o ≡ sign_of p = cc in
    let s : Some o ≡ Some p = sym (operator_back o) ∙ ap operator_of signs ∙ operator_back p in cc

-- a sign that is no operator
pub no_operator : (g : Sign) → operator_of g ≡ None → (o : Op) → tok.Sign g ≡ tok.Sign (sign_of o) → ⊥
no_operator g none o e =
    let signs : g ≡ sign_of o = cc in
    let s : None ≡ Some o = sym none ∙ ap operator_of signs ∙ operator_back o in cc

pub low_level : (o : Op) → level o ≤ 4
low_level op.Or = omega arith
low_level op.And = omega arith
low_level op.Eq = omega arith
low_level op.Ne = omega arith
low_level op.Lt = omega arith
low_level op.Le = omega arith
low_level op.Gt = omega arith
low_level op.Ge = omega arith
low_level op.Add = omega arith
low_level op.Sub = omega arith
low_level op.Mul = omega arith
low_level op.Div = omega arith
low_level op.Rem = omega arith

-- off the level of comparisons, the left operand stands at the operator's own level
pub same_level : (o : Op) → (level o ≡ 2 → ⊥) → left_level o ≡ level o
same_level op.Or c = refl
same_level op.And c = refl
same_level op.Eq c = absurd (c refl)
same_level op.Ne c = absurd (c refl)
same_level op.Lt c = absurd (c refl)
same_level op.Le c = absurd (c refl)
same_level op.Gt c = absurd (c refl)
same_level op.Ge c = absurd (c refl)
same_level op.Add c = refl
same_level op.Sub c = refl
same_level op.Mul c = refl
same_level op.Div c = refl
same_level op.Rem c = refl

pub over_two : (o : Op) → level o ≡ 2 → left_level o ≡ 3
over_two op.Or e = absurd (omega (arith, e))
over_two op.And e = absurd (omega (arith, e))
over_two op.Eq e = refl
over_two op.Ne e = refl
over_two op.Lt e = refl
over_two op.Le e = refl
over_two op.Gt e = refl
over_two op.Ge e = refl
over_two op.Add e = absurd (omega (arith, e))
over_two op.Sub e = absurd (omega (arith, e))
over_two op.Mul e = absurd (omega (arith, e))
over_two op.Div e = absurd (omega (arith, e))
over_two op.Rem e = absurd (omega (arith, e))

-- ---- the tokens that may follow

pub first_sign : (g : Sign) (p : Tokens → Type 0) (us r : Tokens) → (a_sign g ⨾ p) us
    → (at : Spot) × (head (us ++ r) ≡ Some (record { kind = tok.Sign g; at = at }))
first_sign g p us r d = (d.first.0, ap (λ l. head (l ++ r)) (d.parts ∙ ap (λ l. l ++ d.back) d.first.1))

pub ends_later : (l : ℕ) (o : Option Lexeme) → Ends l o → Ends (l + 1) o
ends_later l None e = tt
ends_later l (Some t) e = ((λ o k. let h : level o < l = e.0 o k in omega (arith, h)), e.1, e.2)

pub ends_at : (l : ℕ) (o : Op) (at : Spot) → level o < l
    → Ends l (Some (record { kind = tok.Sign (sign_of o); at = at }))
ends_at l o at less = (
  (λ p k. let same : o ≡ p = same_operator o p k in let h : level p ≡ level o = ap level (sym same) in omega
      (arith, h, less)),
  (λ k. no_operator sign.Dot refl o (sym k)),
  (λ k. no_operator sign.OpenBracket refl o (sym k)),
)

-- a sign that goes on no expression
pub ends_closing : (l : ℕ) (g : Sign) (at : Spot) → IsClosing g → Ends l (Some (record { kind = tok.Sign g; at = at }))
ends_closing l g at c = (
  (λ p k. absurd (no_operator g c.0 p k)),
  (λ k. c.1 (let same : g ≡ sign.Dot = cc in same)),
  (λ k. c.2 (let same : g ≡ sign.OpenBracket = cc in same)),
)

pub operator_ends : (l : ℕ) (o : Op) → level o < l → (f : Option Lexeme) → Is (tok.Sign (sign_of o)) f → Ends l f
operator_ends l o less = of_kind (tok.Sign (sign_of o)) (Ends l) (λ at. ends_at l o at less)

pub goes_on : (l : ℕ) (rest more : Tokens) (o : Op) → IsOperator l rest o more → Ends l (head rest) → ⊥
goes_on l rest more o i f =
    let P : Tokens → Type 0 = λ v. Ends l (head v) in
    let h : level o < l = (subst P i.whole f).0 o i.kind in omega (arith, h, i.at_level)
