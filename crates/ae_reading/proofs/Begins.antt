-- The first token of a tree, and what may come next.
use Rattle.std.proofs.Common.{◌≡◌, ℕ, ◌++◌, Option, Some, None, refl, sym, ap, ◌∙◌, append_assoc, subst}
use Rattle.ae_text.specs.declared.refusal.Spot.{Spot}
use Rattle.ae_tree.specs.declared.lexeme.Lexeme.{Lexeme}
use Rattle.ae_tree.specs.declared.lexeme.Lexical.{Lexical}
use Rattle.ae_tree.specs.declared.lexeme.Lexical.TheVariants.{Name}
use Rattle.ae_tree.specs.Grammar.{Tokens, ◌⨾◌, Then, one_at, one_token, name}
use Rattle.ae_reading.specs.Reads.{head, Is, Isnt, IsName, Token, TokenMark}
use Rattle.ae_reading.proofs.ReadsLemmas.{Lang, Follow, Links, NoneAt}

-- ---- the next token

pub is_isnt : (k : Lexical) (o : Option Lexeme) → Is k o → Isnt k o → ⊥
is_isnt k None is isnt = is
is_isnt k (Some t) is isnt = isnt is

pub isnt_of : (k : Lexical) (o : Option Lexeme) → (Is k o → ⊥) → Isnt k o
isnt_of k None other = tt
isnt_of k (Some t) other = other

-- what holds of each token of a kind
pub of_kind : (k : Lexical) (P : Follow) → ((at : Spot) → P (Some (record { kind = k; at = at })))
    → (o : Option Lexeme) → Is k o → P o
of_kind k P f None i = absurd i
of_kind k P f (Some t) i = let Q : Lexical → Type 0 = λ j. P (Some (record { kind = j; at = t.at })) in subst Q
    (sym i) (f t.at)

pub is_by : (k : Lexical) (P : Follow) → ((t : Lexeme) → t.kind ≡ k → P (Some t)) → (o : Option Lexeme) → Is k o → P o
is_by k P f None i = absurd i
is_by k P f (Some t) i = f t i

pub of_other : (k j : Lexical) → (k ≡ j → ⊥) → (o : Option Lexeme) → Is k o → Isnt j o
of_other k j f None i = tt
of_other k j f (Some t) i = λ e. f (sym i ∙ e)

pub of_name : (j : Lexical) → ((n : ℕ) → Name n ≡ j → ⊥) → (o : Option Lexeme) → IsName o → Isnt j o
of_name j f None i = absurd i
of_name j f (Some t) i = λ e. f i.0 (sym i.1 ∙ e)

pub not_both : (k j : Lexical) → (k ≡ j → ⊥) → (o : Option Lexeme) → Is k o → Is j o → ⊥
not_both k j f None i h = i
not_both k j f (Some t) i h = f (sym i ∙ h)

-- ---- what a language begins with

-- what the first token of each tree is
abbrev pub Begins : {A : Type 0} → Lang A → Follow → Type 0
Begins {A} D P = (x : A) (us r : Tokens) → D x us → P (head (us ++ r))

pub begins_as : {A : Type 0} (D : Lang A) (P Q : Follow) → ((o : Option Lexeme) → P o → Q o) → Begins D P → Begins D Q
begins_as D P Q f b x us r d = f (head (us ++ r)) (b x us r d)

pub begins_token : (k : Lexical) → Begins (Token k) (Is k)
begins_token k at us r d = let P : Tokens → Type 0 = λ l. Is k (head (l ++ r)) in subst P (sym d) refl

pub begins_mark : (k : Lexical) → Begins (TokenMark k) (Is k)
begins_mark k x us r d = begins_token k d.0 us r d.1

pub begins_name : Begins name IsName
begins_name x us r d = let P : Tokens → Type 0 = λ l. IsName (head (l ++ r)) in subst P (sym d) (x.name, refl)

-- where the first part begins with such a token, so do both
pub begins_both : {A B : Type 0} (D : Lang A) (E : A → Lang B) (P : Follow) → Begins D P
    → Begins (λ (p : A × B). D p.0 ⨾ E p.0 p.1) P
begins_both D E P b x us r d =
    let Q : Tokens → Type 0 = λ l. P (head l) in
    subst Q (sym (append_assoc d.front d.back r) ∙ ap (λ l. l ++ r) (sym d.parts)) (b x.0 d.front (d.back ++ r) d.first)

-- what begins so may come next
pub links_by : {A : Type 0} (D : Lang A) (P F : Follow) → ((o : Option Lexeme) → P o → F o) → Begins D P
    → (G : Follow) → Links D G F
links_by D P F f b G x us r d g = begins_as D P F f b x us r d

-- what begins otherwise does not come next
pub begins_not : {A : Type 0} (D : Lang A) (P : Follow) (rest : Tokens) → Begins D P → (P (head rest) → ⊥)
    → NoneAt D rest
begins_not D P rest b other y us r d h = other (subst P h (b y us r d))

-- ---- what some tokens begin with

-- these tokens, with r behind them, begin with a token of this kind
pub record Opens (us r : Tokens) (k : Lexical) : Type 0 where
  pub token : Lexeme
  pub front : head (us ++ r) ≡ Some token
  pub kind : token.kind ≡ k

pub opens_so : {k : Lexical} (us r : Tokens) → Opens us r k → Is k (head (us ++ r))
opens_so {k} us r b = let P : Option Lexeme → Type 0 = Is k in subst P (sym b.front) b.kind

pub opens_one : {k : Lexical} {at : Spot} (us r : Tokens) → one_at k at us → Opens us r k
opens_one {k} {at} us r d = record {
  token = record { kind = k; at = at };
  front = ap (λ l. head (l ++ r)) d;
  kind =
      refl;
}

-- what begins a first part begins the whole
pub opens_first : {k : Lexical} {p q : Tokens → Type 0} (us r : Tokens) (d : Then p q us)
    → Opens d.front (d.back ++ r) k → Opens us r k
opens_first {k} us r d b = record {
  token = b.token;
  front = ap head (ap (λ l. l ++ r) d.parts ∙ append_assoc d.front d.back r) ∙ b.front;
  kind =
      b.kind;
}

pub opens_at : {k : Lexical} {at : Spot} {q : Tokens → Type 0} (us r : Tokens) → Then (one_at k at) q us → Opens us r k
opens_at us r d = opens_first us r d (opens_one d.front (d.back ++ r) d.first)

pub opens_mark : {k : Lexical} {q : Tokens → Type 0} (us r : Tokens) → Then (one_token k) q us → Opens us r k
opens_mark us r d = opens_first us r d (opens_one d.front (d.back ++ r) d.first.1)

-- the kind of the next token, where a tree begins with it
pub opens_is : {k j : Lexical} (us r ts : Tokens) → Opens us r k → head (us ++ r) ≡ head ts → Is j (head ts) → k ≡ j
opens_is {k} {j} us r ts b h is = let P : Option Lexeme → Type 0 = Is j in sym b.kind ∙ subst P (sym h ∙ b.front) is

pub opens_other : {k : Lexical} (us r ts : Tokens) → Opens us r k → head (us ++ r) ≡ head ts → (Is k (head ts) → ⊥) → ⊥
opens_other {k} us r ts b h other = let P : Option Lexeme → Type 0 = Is k in other (subst P (sym b.front ∙ h) b.kind)

-- a tree that begins with another token lets one that wants none of a kind end
pub opens_isnt : {k j : Lexical} (us r : Tokens) → Opens us r k → (k ≡ j → ⊥) → Isnt j (head (us ++ r))
opens_isnt {k} {j} us r b other = let P : Option Lexeme
    → Type 0 = Isnt j in subst P (sym b.front) (λ e. other (sym b.kind ∙ e))
