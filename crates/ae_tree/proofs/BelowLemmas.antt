-- The numbers of names in the tokens that a production stands for.
use Rattle.std.proofs.Common.{arith, ◌≡◌, ◌<◌, refl, sym, ap, ◌∙◌, subst, ℕ, suc, ◌+◌, ◌++◌, Bool, true, false, not}
use Rattle.std.proofs.Common.{cond, ◌||◌, List, [], ◌∷◌, length, bytes_eq, append-nil, append_assoc}
use Rattle.std.specs.List.{list_any, IsDistinct}
use Rattle.std.specs.Cmp.{IsEquivalence}
use Rattle.std.specs.Cmp.Lexicographic.{bytes_decides}
use Rattle.std.proofs.lemmas.List.Folds.{list_any-append}
use Rattle.std.proofs.lemmas.Map.Keys.{IsDistinct-push}
use Rattle.indexmap.specs.IndexSet.{insert_key, insert_all}
use Rattle.ae_text.specs.declared.token.TokenKind.{TokenKind}
use Rattle.ae_text.specs.declared.token.TokenKind.TheVariants as k
use Rattle.ae_text.specs.declared.token.Token.{Token}
use Rattle.ae_tree.specs.declared.lexeme.Lexical.{Lexical}
use Rattle.ae_tree.specs.declared.lexeme.Lexical.TheVariants as tok
use Rattle.ae_tree.specs.Names.{this, name_number, lexical, numbered, spelled_before, spellings}
use Rattle.ae_tree.specs.Grammar.{Tokens, Then}

abbrev Words : Type 0
Words = List (List ℕ)

-- ---- names that are inserted

key_kept : (test : List ℕ → Bool) (ks : Words) (s : List ℕ) → list_any test ks ≡ true
    → list_any test (insert_key bytes_eq ks s) ≡ true
key_kept test ks s h = by (list_any (bytes_eq s) ks)
  where
    by : (b : Bool) → list_any test (cond b ks (ks ++ s ∷ [])) ≡ true
    by true = h
    by false = list_any-append test ks (s ∷ []) ∙ ap (λ b. b || list_any test (s ∷ [])) h

all_kept : (test : List ℕ → Bool) (xs ks : Words) → list_any test ks ≡ true
    → list_any test (insert_all bytes_eq ks xs) ≡ true
all_kept test [] ks h = h
all_kept test (s ∷ xs) ks h = all_kept test xs (insert_key bytes_eq ks s) (key_kept test ks s h)

either_true : (a b : Bool) → b ≡ true → (a || b) ≡ true
either_true true b e = refl
either_true false b e = e

key_there : (ks : Words) (s : List ℕ) → list_any (bytes_eq s) (insert_key bytes_eq ks s) ≡ true
key_there ks s = by (list_any (bytes_eq s) ks) refl
  where
    last : list_any (bytes_eq s) (s ∷ []) ≡ true
    last = ap (λ b. b || false) ((bytes_decides s s).1 refl)

    by : (b : Bool) → list_any (bytes_eq s) ks ≡ b → list_any (bytes_eq s) (cond b ks (ks ++ s ∷ [])) ≡ true
    by true e = e
    by false e = list_any-append (bytes_eq s) ks (s ∷ []) ∙ either_true (list_any (bytes_eq s) ks)
        (list_any (bytes_eq s) (s ∷ [])) last

-- what was there comes first
key_more : (ks : Words) (s : List ℕ) → (rest : Words) × (insert_key bytes_eq ks s ≡ ks ++ rest)
key_more ks s = by (list_any (bytes_eq s) ks)
  where
    by : (b : Bool) → (rest : Words) × (cond b ks (ks ++ s ∷ []) ≡ ks ++ rest)
    by true = ([], sym (append-nil ks))
    by false = (s ∷ [], refl)

-- after all are inserted, what was there comes first
pub all_more : (xs ks : Words) → (rest : Words) × (insert_all bytes_eq ks xs ≡ ks ++ rest)
all_more [] ks = ([], sym (append-nil ks))
all_more (s ∷ xs) ks =
    let a = key_more ks s in
    let b = all_more xs (insert_key bytes_eq ks s) in
    (a.0 ++ b.0, b.1 ∙ ap (λ l. l ++ b.0) a.1 ∙ append_assoc ks a.0 b.0)

-- no two are alike
same_truth : (a b : Bool) → (a ≡ true → b ≡ true) → (b ≡ true → a ≡ true) → a ≡ b
same_truth true b f g = sym (f refl)
same_truth false true f g = g refl
same_truth false false f g = refl

spelled_alike : (x y z : List ℕ) → (x ≡ z → y ≡ z) → (y ≡ z → x ≡ z) → bytes_eq x z ≡ bytes_eq y z
spelled_alike x y z f g = same_truth (bytes_eq x z) (bytes_eq y z)
    (λ e. (bytes_decides y z).1 (f ((bytes_decides x z).0 e)))
    (λ e. (bytes_decides x z).1 (g ((bytes_decides y z).0 e)))

bytes_alike : IsEquivalence bytes_eq
bytes_alike = record {
  refl = λ x. (bytes_decides x x).1 refl;
  symm = λ x y. same_truth (bytes_eq x y) (bytes_eq y x) (λ e. (bytes_decides y x).1 (sym ((bytes_decides x y).0 e)))
      (λ e. (bytes_decides x y).1 (sym ((bytes_decides y x).0 e)));
  congr = λ x y z e. let s : x ≡ y = (bytes_decides x y).0 e in spelled_alike x y z (λ q. sym s ∙ q) (λ q. s ∙ q);
}

key_apart : (ks : Words) (s : List ℕ) → IsDistinct bytes_eq ks → IsDistinct bytes_eq (insert_key bytes_eq ks s)
key_apart ks s h = by (list_any (bytes_eq s) ks) refl
  where
    by : (b : Bool) → list_any (bytes_eq s) ks ≡ b → IsDistinct bytes_eq (cond b ks (ks ++ s ∷ []))
    by true e = h
    by false e = IsDistinct-push bytes_alike ks s h e

-- after all are inserted, no two are alike, if none were before
pub all_apart : (xs ks : Words) → IsDistinct bytes_eq ks → IsDistinct bytes_eq (insert_all bytes_eq ks xs)
all_apart [] ks h = h
all_apart (s ∷ xs) ks h = all_apart xs (insert_key bytes_eq ks s) (key_apart ks s h)

-- ---- the numbers in tokens

-- the number of a name is below this one, and so is that of `this`
abbrev pub IsBelow : ℕ → Lexical → Type 0
IsBelow n (tok.Name x) = x < n
IsBelow n (tok.Int i) = Unit {0}
IsBelow n (tok.Text s) = Unit {0}
IsBelow n (tok.Word w) = this < n
IsBelow n (tok.Sign g) = Unit {0}
IsBelow n tok.End = Unit {0}

-- each token has this
abbrev pub EachToken : (Lexical → Type 0) → Tokens → Type 0
EachToken L [] = Unit {0}
EachToken L (t ∷ ts) = L t.kind × EachToken L ts

place_below : (names : Words) (s : List ℕ) → list_any (bytes_eq s) names ≡ true → name_number names s < length names
place_below [] s h = absurd (cc)
place_below (x ∷ names) s h = by (bytes_eq s x) h (place_below names s)
  where
    by : (b : Bool) → (b || list_any (bytes_eq s) names) ≡ true
        → (list_any (bytes_eq s) names ≡ true → name_number names s < length names)
        → cond (not b) (1 + name_number names s) 0 < suc (length names)
    by true h again = omega arith
    by false h again = let l : name_number names s < length names = again h in omega (arith, l)

-- tokens whose names are inserted behind others, `this` among them
abbrev AreNumbered : List Token → Type 0
AreNumbered ts = (ks : Words) → this < length (insert_all bytes_eq ks (spellings ts))
    → EachToken (IsBelow (length (insert_all bytes_eq ks (spellings ts))))
    (numbered (insert_all bytes_eq ks (spellings ts)) ts)

token_below : (kind : TokenKind) (ts : List Token) → AreNumbered ts → (ks : Words)
    → this < length (insert_all bytes_eq ks (spelled_before kind (spellings ts))) →
    IsBelow (length (insert_all bytes_eq ks (spelled_before kind (spellings ts))))
    (lexical (insert_all bytes_eq ks (spelled_before kind (spellings ts))) kind)
    × EachToken (IsBelow (length (insert_all bytes_eq ks (spelled_before kind (spellings ts)))))
    (numbered (insert_all bytes_eq ks (spelled_before kind (spellings ts))) ts)
token_below (k.Name s) ts h ks l = (
  place_below (insert_all bytes_eq (insert_key bytes_eq ks s) (spellings ts)) s
      (all_kept (bytes_eq s) (spellings ts) (insert_key bytes_eq ks s) (key_there ks s)),
  h (insert_key bytes_eq ks s) l,
)
token_below (k.Int i) ts h ks l = (tt, h ks l)
token_below (k.Text s) ts h ks l = (tt, h ks l)
token_below (k.Word w) ts h ks l = (l, h ks l)
token_below (k.Sign g) ts h ks l = (tt, h ks l)
token_below k.End ts h ks l = (tt, h ks l)

-- the numbers of all tokens are below how many names there are
pub tokens_below : (ts : List Token) → AreNumbered ts
tokens_below [] ks l = tt
tokens_below (t ∷ ts) ks l = token_below t.kind ts (tokens_below ts) ks l

-- ---- the tokens of a production

front_has : (L : Lexical → Type 0) (xs ys : Tokens) → EachToken L (xs ++ ys) → EachToken L xs
front_has L [] ys h = tt
front_has L (x ∷ xs) ys h = (h.0, front_has L xs ys h.1)

back_has : (L : Lexical → Type 0) (xs ys : Tokens) → EachToken L (xs ++ ys) → EachToken L ys
back_has L [] ys h = h
back_has L (x ∷ xs) ys h = back_has L xs ys h.1

-- tokens of this production, each of which has this
pub record Of (L : Lexical → Type 0) (P : Tokens → Type 0) : Type 0 where
  pub tokens : Tokens
  pub derives : P tokens
  pub each : EachToken L tokens

-- the first part of a sequence, and what stands behind it
pub head : {L : Lexical → Type 0} {P Q : Tokens → Type 0} → Of L (Then P Q) → Of L P
head {L} d = record {
  tokens = d.derives.front;
  derives = d.derives.first;
  each =
      front_has L d.derives.front d.derives.back (subst (EachToken L) d.derives.parts d.each);
}

pub tail : {L : Lexical → Type 0} {P Q : Tokens → Type 0} → Of L (Then P Q) → Of L Q
tail {L} d = record {
  tokens = d.derives.back;
  derives = d.derives.second;
  each =
      back_has L d.derives.front d.derives.back (subst (EachToken L) d.derives.parts d.each);
}

-- behind one condition, or two
pub under : {L : Lexical → Type 0} {A : Type 0} {P : Tokens → Type 0} → Of L (λ ts. A × P ts) → Of L P
under d = record { tokens = d.tokens; derives = d.derives.1; each = d.each }

pub under_two : {L : Lexical → Type 0} {A B : Type 0} {P : Tokens → Type 0} → Of L (λ ts. A × B × P ts) → Of L P
under_two d = record { tokens = d.tokens; derives = d.derives.2; each = d.each }
