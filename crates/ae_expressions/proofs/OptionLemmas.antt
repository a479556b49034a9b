-- A next token that is there, and a part that is over the limit.
use Rattle.std.proofs.Common.{◌≡◌, ◌++◌, [], ◌∷◌, length, Option, Some, None, refl, sym, ap, ◌∙◌, subst, ◌<◌, arith}
use Rattle.ae_tree.specs.declared.limits.Limit.TheVariants.{Depth}
use Rattle.ae_tree.specs.declared.limits.Limit.{Limit}
use Rattle.ae_tree.specs.declared.lexeme.Lexeme.{Lexeme}
use Rattle.ae_tree.specs.declared.lexeme.Lexical.{Lexical}
use Rattle.ae_tree.specs.Limits.{early, rank}
use Rattle.ae_tree.specs.Grammar.{Tokens}
use Rattle.ae_reading.specs.declared.fail.Why.{Why}
use Rattle.ae_reading.specs.Reads.{head, Is, IsWithinAll, Stopped, Counts, Beyond}
use Rattle.ae_expressions.proofs.from_reading.ReadsLemmas.{Lang, Bound, Follow, lead_here, beyond_as}
use Rattle.ae_expressions.proofs.from_reading.Parts.{optional}

pub begun : (k : Lexical) (ts : Tokens) → Is k (head ts) → (t : Lexeme) × (later : Tokens) × (ts ≡ t ∷ later)
    × (t.kind ≡ k)
begun k [] i = absurd i
begun k (t ∷ ts) i = (t, ts, refl, i)

full_only : {A : Type 0} {D : Lang A} (V : Bound (Option A)) (F : Follow) (rest : Tokens) (why : Why)
    → (F (head rest) → ⊥) →
    ((z : A) (us r : Tokens) → D z us → head (us ++ r) ≡ head rest → Counts why (λ l. V l (Some z)) → ⊥) →
    (y : Option A) (us r other : Tokens) → optional D y us → us ++ r ≡ other → head other ≡ head rest → F (head r)
    → Counts why (λ l. V l y) → ⊥
full_only V F rest why goes_on none None us r other d e h f w = let P : Option Lexeme
    → Type 0 = F in goes_on (subst P (ap head (ap (λ l. l ++ r) (sym d) ∙ e) ∙ h) f)
full_only V F rest why goes_on none (Some z) us r other d e h f w = none z us r d (ap head e ∙ h) w

-- the part is wanted, and each that begins here is over the limit
pub full : {A : Type 0} {D : Lang A} {V : Bound (Option A)} {F : Follow} {rest : Tokens} (why : Why)
    → (F (head rest) → ⊥) →
    ((z : A) (us r : Tokens) → D z us → head (us ++ r) ≡ head rest → Counts why (λ l. V l (Some z)) → ⊥)
    → Beyond D (λ l z. V l (Some z)) [] rest why → IsWithinAll V None
    → Stopped (optional D) V F rest why (length rest)
full {A} {D} {V} {F} {rest} why goes_on none beyond v = record {
  before = [];
  rest = rest;
  whole = refl;
  left_is = refl;
  known = tt;
  tree = None;
  more = [];
  no_end = tt;
  goes = refl;
  within = λ l. v (early l);
  lead = lead_here [] None [] refl tt v;
  stuck = λ y us r other d e h f w. full_only V F rest why goes_on none y us r other d e h f w;
  beyond = beyond_as (optional D) D V (λ l z. V l (Some z)) Some why [] rest (λ q us d. d) (λ q us d l v. v) beyond;
}

-- depth itself is not named before depth
pub none_before : {A : Type 0} (m : Limit) → rank m < 1 → m ≡ Depth → A
none_before m k e = absurd (let h : rank m ≡ 1 = ap rank e in omega (arith, h, k))
