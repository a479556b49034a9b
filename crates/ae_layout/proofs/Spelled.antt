-- The number of a name is spelled again: lexemes, shown with the names of their tokens, are these tokens.
use Rattle.std.proofs.Common.{◌≡◌, ◌≢◌, ℕ, suc, ◌+◌, Bool, true, false, not, cond, ◌||◌, if◌then◌else◌, List, []}
use Rattle.std.proofs.Common.{◌∷◌, ◌++◌, map, refl, sym, ap, ap₂, ◌∙◌, subst, append_assoc, append-nil, arith, codes}
use Rattle.std.proofs.Common.{slice_index_or, bytes_eq}
use Rattle.std.specs.Cmp.Lexicographic.{bytes_decides}
use Rattle.std.specs.List.{list_any}
use Rattle.indexmap.specs.IndexSet.{insert_key, insert_all}
use Rattle.ae_text.specs.declared.token.TokenKind.{TokenKind}
use Rattle.ae_text.specs.declared.token.TokenKind.TheVariants as t
use Rattle.ae_text.specs.declared.token.Token.{Token}
use Rattle.ae_tree.specs.declared.lexeme.Lexical.TheVariants as tok
use Rattle.ae_tree.specs.Names.{first_names, spelled_before, spellings, names_of, name_number, numbered, lexical}
use Rattle.ae_layout.specs.Spelling.{name_text}
use Rattle.ae_layout.specs.Layout.{Spellings}
use Rattle.ae_layout.specs.Rows.{Every}
use Rattle.ae_layout.proofs.Productions.{kind_of, shown, Clean}

abbrev Held : Spellings → List ℕ → Type 0
Held names s = list_any (bytes_eq s) names ≡ true

-- ---- names among the names

any_more : {A : Type 0} (p : A → Bool) (xs ys : List A) → list_any p xs ≡ true → list_any p (xs ++ ys) ≡ true
any_more p (x ∷ xs) ys h = by (p x) (any_more p xs ys) h
  where
    by : (b : Bool) → (list_any p xs ≡ true → list_any p (xs ++ ys) ≡ true) → (b || list_any p xs) ≡ true
        → (b || list_any p (xs ++ ys)) ≡ true
    by true rest e = refl
    by false rest e = rest e
any_more p [] ys h = absurd (cc)

any_last : {A : Type 0} (p : A → Bool) (xs : List A) (x : A) → p x ≡ true → list_any p (xs ++ x ∷ []) ≡ true
any_last p [] x h = ap (λ b. b || false) h
any_last p (y ∷ xs) x h = by (p y) (any_last p xs x h)
  where
    by : (b : Bool) → list_any p (xs ++ x ∷ []) ≡ true → (b || list_any p (xs ++ x ∷ [])) ≡ true
    by true e = refl
    by false e = e

-- what was inserted stands behind what was there
record Grows (old new : Spellings) : Type 0 where
  more : Spellings
  parts : new ≡ old ++ more

grows_key : (names : Spellings) (s : List ℕ) → Grows names (insert_key bytes_eq names s)
grows_key names s = by (list_any (bytes_eq s) names)
  where
    by : (b : Bool) → Grows names (if b then names else names ++ s ∷ [])
    by true = record { more = []; parts = sym (append-nil names) }
    by false = record { more = s ∷ []; parts = refl }

grows_all : (names xs : Spellings) → Grows names (insert_all bytes_eq names xs)
grows_all names [] = record { more = []; parts = sym (append-nil names) }
grows_all names (x ∷ xs) =
    let one = grows_key names x in
    let rest = grows_all (insert_key bytes_eq names x) xs in
    record {
      more = one.more ++ rest.more;
      parts = rest.parts ∙ ap (λ l. l ++ rest.more) one.parts
          ∙ append_assoc names one.more rest.more;
    }

held_grows : (old new : Spellings) (s : List ℕ) → Grows old new → Held old s → Held new s
held_grows old new s g h = let P : Spellings → Type 0 =
    λ l. Held l s in subst P (sym g.parts) (any_more (bytes_eq s) old g.more h)

held_key : (names : Spellings) (s : List ℕ) → Held (insert_key bytes_eq names s) s
held_key names s = by (list_any (bytes_eq s) names) refl
  where
    by : (b : Bool) → list_any (bytes_eq s) names ≡ b → Held (if b then names else names ++ s ∷ []) s
    by true e = e
    by false e = any_last (bytes_eq s) names s ((bytes_decides s s).1 refl)

held_all : (names xs : Spellings) → Every (Held (insert_all bytes_eq names xs)) xs
held_all names [] = tt
held_all names (x ∷ xs) = (held_grows (insert_key bytes_eq names x) _ x (grows_all (insert_key bytes_eq names x) xs) (held_key names x), held_all (insert_key bytes_eq names x) xs)

-- ---- numbers and spellings

-- a name among the names is spelled at its number
pub spelled_again : (names : Spellings) (s : List ℕ) → Held names s → name_text names (name_number names s) ≡ s
spelled_again [] s h = absurd (cc)
spelled_again (x ∷ names) s h = by (bytes_eq s x) refl (spelled_again names s) h
  where
    by : (b : Bool) → bytes_eq s x ≡ b → (Held names s → name_text names (name_number names s) ≡ s)
        → (b || list_any (bytes_eq s) names) ≡ true
        → slice_index_or (x ∷ names) (cond (not b) (1 + name_number names s) 0) [] ≡ s
    by true e rest k = sym ((bytes_decides s x).0 e)
    by false e rest k =
        let next : 1 + name_number names s ≡ suc (name_number names s) = omega arith in
        ap (λ n. slice_index_or (x ∷ names) n []) next ∙ rest k

-- the third name is `this`
this_third : (tokens : List Token) → name_text (names_of tokens) 2 ≡ codes "this"
this_third tokens = ap (λ l. name_text l 2) (grows_all first_names (spellings tokens)).parts

-- ---- tokens

-- a name that is not spelled as the word `this`
abbrev pub NotThis : TokenKind → Type 0
NotThis (t.Name s) = s ≢ codes "this"
NotThis _ = Unit {0}

kind_again : (names : Spellings) (tokens : List Token) → Every (Held names) (spellings tokens)
    → shown names (numbered names tokens) ≡ map (λ x. x.kind) tokens
kind_again names [] h = refl
kind_again names (x ∷ tokens) h = by x.kind (kind_again names tokens) h
  where
    by : (k : TokenKind) → (Every (Held names) (spellings tokens) → shown names (numbered names tokens)
        ≡ map (λ y. y.kind) tokens) → Every (Held names) (spelled_before k (spellings tokens))
        → kind_of names (lexical names k) ∷ shown names (numbered names tokens) ≡ k ∷ map (λ y. y.kind) tokens
    by (t.Name s) rest e = ap₂ (λ y l. t.Name y ∷ l) (spelled_again names s e.0) (rest e.1)
    by (t.Int n) rest e = ap (λ l. t.Int n ∷ l) (rest e)
    by (t.Text s) rest e = ap (λ l. t.Text s ∷ l) (rest e)
    by (t.Word w) rest e = ap (λ l. t.Word w ∷ l) (rest e)
    by (t.Sign g) rest e = ap (λ l. t.Sign g ∷ l) (rest e)
    by t.End rest e = ap (λ l. t.End ∷ l) (rest e)

-- the lexemes of tokens, shown with their names, are the tokens
pub shown_again : (tokens : List Token) → shown (names_of tokens) (numbered (names_of tokens) tokens)
    ≡ map (λ x. x.kind) tokens
shown_again tokens = kind_again (names_of tokens) tokens (held_all first_names (spellings tokens))

number_is : (a b : ℕ) → tok.Name a ≡ tok.Name b → a ≡ b
number_is a b e = cc

clean_all : (names : Spellings) (tokens : List Token) → name_text names 2 ≡ codes "this"
    → Every (Held names) (spellings tokens) → Every NotThis (map (λ x. x.kind) tokens) → Clean (numbered names tokens)
clean_all names [] third h n = tt
clean_all names (x ∷ tokens) third h n = (by x.kind h n.0, clean_all names tokens third (later x.kind h) n.1)
  where
    by : (k : TokenKind) → Every (Held names) (spelled_before k (spellings tokens)) → NotThis k
        → lexical names k ≢ tok.Name 2
    by (t.Name s) e other = λ i. other
        (sym (spelled_again names s e.0) ∙ ap (name_text names) (number_is (name_number names s) 2 i) ∙ third)
    by (t.Int n) e other = λ i. cc
    by (t.Text s) e other = λ i. cc
    by (t.Word w) e other = λ i. cc
    by (t.Sign g) e other = λ i. cc
    by t.End e other = λ i. cc

    later : (k : TokenKind) → Every (Held names) (spelled_before k (spellings tokens))
        → Every (Held names) (spellings tokens)
    later (t.Name s) e = e.1
    later (t.Int n) e = e
    later (t.Text s) e = e
    later (t.Word w) e = e
    later (t.Sign g) e = e
    later t.End e = e

-- where no name is spelled as `this`, none has its number
pub clean_names : (tokens : List Token) → Every NotThis (map (λ x. x.kind) tokens)
    → Clean (numbered (names_of tokens) tokens)
clean_names tokens n = clean_all (names_of tokens) tokens (this_third tokens)
    (held_all first_names (spellings tokens)) n
