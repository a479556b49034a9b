-- A part with a token before it or behind it, a pair whose second part depends on the first, and what ends an expression.
use Rattle.std.proofs.Common.{◌≡◌, ◌++◌, ◌∷◌, true, false, Option, Some, refl, sym, ◌∙◌, subst, arith, pos}
use Rattle.ae_text.specs.declared.refusal.Spot.{Spot}
use Rattle.ae_text.specs.declared.token.Sign.{Sign}
use Rattle.ae_text.specs.declared.token.Sign.TheVariants as sign
use Rattle.ae_tree.specs.declared.lexeme.Lexeme.{Lexeme}
use Rattle.ae_tree.specs.declared.lexeme.Lexical.{Lexical}
use Rattle.ae_tree.specs.declared.lexeme.Lexical.TheVariants as tok
use Rattle.ae_tree.specs.declared.limits.Limit.{Limit}
use Rattle.ae_tree.specs.declared.limits.Limit.TheVariants as limit
use Rattle.ae_tree.specs.declared.tree.Op.{Op}
use Rattle.ae_tree.specs.declared.tree.Op.TheVariants as op
use Rattle.ae_tree.specs.Plain.{Number}
use Rattle.ae_tree.specs.Grammar.{Tokens, ◌⨾◌, one_token, sign_of, whole_expression}
use Rattle.ae_tree.specs.Limits.{KeepsDepth}
use Rattle.ae_tree.specs.Refused.{IsKnown, counts_sign}
use Rattle.ae_reading.specs.declared.fail.Fail.{Fail}
use Rattle.ae_reading.specs.Reads.{head, Always, Free, Took, Failed, Token, TokenMark}
use Rattle.ae_statements.proofs.from_reading.ReadsLemmas.{Lang, Bound, Follow, Links, Both, Pair, Has, Along}
use Rattle.ae_statements.proofs.from_reading.ReadsLemmas.{AreKnown-append, took_as, failed_as, first, second, both}
use Rattle.ae_statements.proofs.from_reading.ReadsLemmas.{free, took_mark, failed_mark, has_mark, nowhere, at_once}
use Rattle.ae_statements.proofs.from_reading.Begins.{Opens}
use Rattle.ae_expressions.specs.Ends.{Ends}

-- ---- a token before a part

abbrev pub Pre : {A : Type 0} → Lexical → Lang A → Lang A
Pre k D x = one_token k ⨾ D x

pre_along : {A : Type 0} (k : Lexical) (D : Lang A) (W : Bound A) (ts : Tokens)
    → Along (Pre k D) (Both (TokenMark k) D) W (Pair Free W) ts (λ q. q.1)
pre_along k D W ts = record {
  intro = λ q us d. d;
  cases = λ y us r d h. ((tt, y), refl, d);
  to = λ q us d l v. v.1;
  from = λ q us d l v. (tt, v);
}

pub took_pre : {A : Type 0} {k : Lexical} (D : Lang A) {W : Bound A} {F : Follow} {ts mid rest : Tokens} {at : Spot}
    {x : A} →
    Took (Token k) Free Always ts at mid → Took D W F mid x rest → Took (Pre k D) W F ts x rest
took_pre {A} {k} D {W} {F} {ts} t u = took_as (Pre k D) (Both (TokenMark k) D) (λ q. q.1) (pre_along k D W ts)
    (both (free D F) (took_mark t) u)

pub pre_first : {A : Type 0} {k : Lexical} (D : Lang A) {W : Bound A} {F : Follow} {ts : Tokens} {e : Fail} →
    Has D W → Failed (Token k) Free Always ts e → Failed (Pre k D) W F ts e
pre_first {A} {k} D {W} {F} {ts} has f = failed_as (Pre k D) (Both (TokenMark k) D) (λ q. q.1) (pre_along k D W ts)
    (first {F = Always} {G = F} (free D F) has (failed_mark f))

pub pre_second : {A : Type 0} {k : Lexical} (D : Lang A) {W : Bound A} {F : Follow} {ts mid : Tokens} {at : Spot}
    {e : Fail} →
    Took (Token k) Free Always ts at mid → Failed D W F mid e → Failed (Pre k D) W F ts e
pre_second {A} {k} D {W} {F} {ts} t f = failed_as (Pre k D) (Both (TokenMark k) D) (λ q. q.1) (pre_along k D W ts)
    (second (free D F) (took_mark t) f)

pub has_pre : {A : Type 0} (k : Lexical) (D : Lang A) {W : Bound A} → IsKnown k → Has D W → Has (Pre k D) W
has_pre k D known x = record {
  tree = x.tree;
  tokens = record { kind = k; at = nowhere } ∷ x.tokens;
  is = record { front = at_once k; back = x.tokens; parts = refl; first = (nowhere, refl); second = x.is };
  known = (known, x.known);
  within = x.within;
}

-- ---- a token behind a part

abbrev pub Suf : {A : Type 0} → Lang A → Lexical → Lang A
Suf D k x = D x ⨾ one_token k

suf_along : {A : Type 0} (k : Lexical) (D : Lang A) (W : Bound A) (ts : Tokens)
    → Along (Suf D k) (Both D (TokenMark k)) W (Pair W Free) ts (λ q. q.0)
suf_along k D W ts = record {
  intro = λ q us d. d;
  cases = λ y us r d h. ((y, tt), refl, d);
  to = λ q us d l v. v.0;
  from = λ q us d l v. (v, tt);
}

-- tokens of this kind may follow
abbrev pub Lets : Lexical → Follow → Type 0
Lets k F = (t : Lexeme) → t.kind ≡ k → F (Some t)

mark_lets : {k : Lexical} (F : Follow) → Lets k F → Links (TokenMark k) Always F
mark_lets {k} F lets y us r d f = let P : Tokens → Type 0 = λ v. F (head (v ++ r)) in subst P (sym d.1)
    (lets (record { kind = k; at = d.0 }) refl)

pub took_suf : {A : Type 0} {k : Lexical} (D : Lang A) {W : Bound A} {F : Follow} {ts mid rest : Tokens} {at : Spot}
    {x : A} →
    Lets k F → Took D W F ts x mid → Took (Token k) Free Always mid at rest → Took (Suf D k) W Always ts x rest
took_suf {A} {k} D {W} {F} {ts} lets t u = took_as (Suf D k) (Both D (TokenMark k)) (λ q. q.0) (suf_along k D W ts)
    (both (mark_lets F lets) t (took_mark u))

pub suf_first : {A : Type 0} {k : Lexical} (D : Lang A) {W : Bound A} {F : Follow} {ts : Tokens} {e : Fail} →
    Lets k F → IsKnown k → Failed D W F ts e → Failed (Suf D k) W Always ts e
suf_first {A} {k} D {W} {F} {ts} lets known f = failed_as (Suf D k) (Both D (TokenMark k)) (λ q. q.0)
    (suf_along k D W ts) (first (mark_lets F lets) (has_mark k known) f)

pub suf_second : {A : Type 0} {k : Lexical} (D : Lang A) {W : Bound A} {F : Follow} {ts mid : Tokens} {x : A}
    {e : Fail} →
    Lets k F → Took D W F ts x mid → Failed (Token k) Free Always mid e → Failed (Suf D k) W Always ts e
suf_second {A} {k} D {W} {F} {ts} lets t f = failed_as (Suf D k) (Both D (TokenMark k)) (λ q. q.0)
    (suf_along k D W ts) (second (mark_lets F lets) t (failed_mark f))

pub has_suf : {A : Type 0} (k : Lexical) (D : Lang A) {W : Bound A} → IsKnown k → Has D W → Has (Suf D k) W
has_suf k D known x = record {
  tree = x.tree;
  tokens = x.tokens ++ at_once k;
  is = record { front = x.tokens; back = at_once k; parts = refl; first = x.is; second = (nowhere, refl) };
  known = AreKnown-append x.tokens (at_once k) x.known (known, tt);
  within = x.within;
}

pub always : (k : Lexical) → Lets k Always
always k t e = tt

-- ---- what ends an expression

counts_op : (o : Op) → counts_sign (sign_of o) ≡ true
counts_op op.Or = refl
counts_op op.And = refl
counts_op op.Eq = refl
counts_op op.Ne = refl
counts_op op.Lt = refl
counts_op op.Le = refl
counts_op op.Gt = refl
counts_op op.Ge = refl
counts_op op.Add = refl
counts_op op.Sub = refl
counts_op op.Mul = refl
counts_op op.Div = refl
counts_op op.Rem = refl

counted_kind : (k : Lexical) (g h : Sign) → k ≡ tok.Sign g → k ≡ tok.Sign h → counts_sign g ≡ false
    → counts_sign h ≡ true → ⊥
counted_kind k g h e i no_mark mark =
    let same : tok.Sign g ≡ tok.Sign h = sym e ∙ i in
    let is : g ≡ h = cc in
    cc

-- a sign that does not count ends an expression
pub sign_ends : (g : Sign) → counts_sign g ≡ false → Lets (tok.Sign g) (Ends 0)
sign_ends g no_mark t e = (
  λ o i. absurd (counted_kind t.kind g (sign_of o) e i no_mark (counts_op o)),
  λ i. counted_kind t.kind g sign.Dot e i no_mark refl,
  λ i. counted_kind t.kind g sign.OpenBracket e i no_mark refl,
)

-- what begins with a token that ends D may follow D
pub begins_lets : {k : Lexical} (F : Follow) (us r : Tokens) → Lets k F → Opens us r k → F (head (us ++ r))
begins_lets {k} F us r lets b = let P : Option Lexeme → Type 0 = F in subst P (sym b.front) (lets b.token b.kind)

none_keeps : (l : Limit) → KeepsDepth l (Number (pos 0) nowhere)
none_keeps limit.Statements = tt
none_keeps limit.Levels = tt
none_keeps limit.Depth = omega arith
none_keeps limit.Params = tt

-- the number 0
pub has_whole : Has whole_expression KeepsDepth
has_whole = record {
  tree = Number (pos 0) nowhere;
  tokens = at_once (tok.Int (pos 0));
  is = refl;
  known =
      (tt, tt);
  within = none_keeps;
}
