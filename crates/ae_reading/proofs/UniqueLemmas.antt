-- Tokens stand for one tree at most: sequences, choices, loops and optional parts.
use Rattle.std.proofs.Common.{◌≡◌, ◌++◌, List, [], ◌∷◌, Option, Some, None, refl, sym, ap, ◌∙◌, append_assoc, subst}
use Rattle.ae_text.specs.declared.refusal.Spot.{Spot}
use Rattle.ae_tree.specs.declared.lexeme.Lexeme.{Lexeme}
use Rattle.ae_tree.specs.declared.lexeme.Lexical.{Lexical}
use Rattle.ae_tree.specs.Grammar.{Tokens, one_by_one, further, separated, comma_list, name}
use Rattle.ae_reading.specs.Reads.{head, Always, Is, Isnt, Token, TokenMark, chain}
use Rattle.ae_reading.proofs.ReadsLemmas.{Lang, Follow, Both, After, Links, name_token, name_of_token}
use Rattle.ae_reading.proofs.Begins.{Begins, begins_as, begins_mark, links_by, of_kind, is_isnt}
use Rattle.ae_reading.proofs.Chains.{chain_turns}
use Rattle.ae_reading.proofs.Runs.{Items, each_chain, each_turns}
use Rattle.ae_reading.proofs.Parts.{Comma, begins_further, optional, Whole, joined, separated_cases}

-- two texts that begin with trees of D, and are one, begin with one tree
abbrev pub Unique : {A : Type 0} → Lang A → Follow → Type 0
Unique {A} D F = (x y : A) (us vs r s : Tokens) → D x us → D y vs → us ++ r ≡ vs ++ s → F (head r) → F (head s)
    → (x ≡ y) × (r ≡ s)

-- ---- the first token of a tree

-- where all may end, no tree begins
abbrev pub Apart : {A : Type 0} → Lang A → Follow → Type 0
Apart {A} D F = (x : A) (us r : Tokens) → D x us → F (head (us ++ r)) → ⊥

pub apart_by : {A : Type 0} (D : Lang A) (P F : Follow) → ((o : Option Lexeme) → P o → F o → ⊥) → Begins D P → Apart D F
apart_by D P F f b x us r d g = f (head (us ++ r)) (b x us r d) g

-- ---- single tokens

pub unique_token : {A : Type 0} (f : A → Lexeme) → ((x y : A) → f x ≡ f y → x ≡ y)
    → Unique (λ x us. us ≡ f x ∷ []) Always
unique_token f inj x y us vs r s d e same t u =
    let all : f x ∷ r ≡ f y ∷ s = sym (ap (λ l. l ++ r) d) ∙ same ∙ ap (λ l. l ++ s) e in
    let heads : f x ≡ f y = cc in
    (inj x y heads, cc)

pub unique_at : (k : Lexical) → Unique (Token k) Always
unique_at k = unique_token (λ at. record { kind = k; at = at }) (λ x y e. ap (λ (l : Lexeme). l.at) e)

pub unique_mark : (k : Lexical) → Unique (TokenMark k) Always
unique_mark k x y us vs r s d e same t u = (refl, (unique_at k d.0 e.0 us vs r s d.1 e.1 same t u).1)

pub unique_name : Unique name Always
unique_name = unique_token name_token (λ x y e. name_of_token y x e)

-- ---- sequences

pub one_text : (us vs a b c d r s : Tokens) → us ≡ a ++ b → vs ≡ c ++ d → us ++ r ≡ vs ++ s
    → a ++ (b ++ r) ≡ c ++ (d ++ s)
one_text us vs a b c d r s p q same = sym (append_assoc a b r) ∙ ap (λ l. l ++ r) (sym p) ∙ same ∙ ap (λ l. l ++ s) q
    ∙ append_assoc c d s

pub unique_after : {A B : Type 0} (D : Lang A) (E : A → Lang B) (F G : Follow) → ((x : A) → Links (E x) G F)
    → Unique D F → ((x : A) → Unique (E x) G) → Unique (After D E) G
unique_after {A} {B} D E F G link one two x y us vs r s d e same t u =
    let all : d.front ++ (d.back ++ r) ≡ e.front ++ (e.back ++ s) = one_text us vs d.front d.back e.front e.back r s
    d.parts e.parts same in
    let a = one x.0 y.0 d.front e.front (d.back ++ r) (e.back ++ s) d.first e.first all
    (link x.0 x.1 d.back r d.second t) (link y.0 y.1 e.back s e.second u) in
    let P : A → Type 0 = λ z. E z x.1 d.back in
    let b = two y.0 x.1 y.1 d.back e.back r s (subst P a.0 d.second) e.second a.1 t u in
    (ap (λ p. (p, x.1)) a.0 ∙ ap (λ q. (y.0, q)) b.0, b.1)

pub unique_both : {A B : Type 0} (D : Lang A) (E : Lang B) (F G : Follow) → Links E G F → Unique D F → Unique E G
    → Unique (Both D E) G
unique_both D E F G link one two = unique_after D (λ x. E) F G (λ x. link) one (λ x. two)

-- behind a part that ends by itself
pub unique_then : {A B : Type 0} (D : Lang A) (E : Lang B) (G : Follow) → Unique D Always → Unique E G
    → Unique (Both D E) G
unique_then D E G one two = unique_both D E Always G (λ y us r d f. tt) one two

pub unique_as : {A B : Type 0} (D : Lang A) (E : Lang B) (F : Follow) (build : B → A)
    → ((y : A) (us : Tokens) → D y us → (q : B) × (y ≡ build q) × E q us) → Unique E F → Unique D F
unique_as D E F build cases one x y us vs r s d e same t u =
    let a = cases x us d in
    let b = cases y vs e in
    let o = one a.0 b.0 us vs r s a.2 b.2 same t u in
    (a.1 ∙ ap build o.0 ∙ sym b.1, o.1)

pub unique_under : {A : Type 0} (D : Lang A) (F G : Follow) → ((o : Option Lexeme) → F o → G o) → Unique D G
    → Unique D F
unique_under D F G f one x y us vs r s d e same t u = one x y us vs r s d e same (f (head r) t) (f (head s) u)

pub unique_always : {A : Type 0} (D : Lang A) (F : Follow) → Unique D Always → Unique D F
unique_always D F one = unique_under D F Always (λ o f. tt) one

-- ---- choices

-- trees of several forms, of which the tokens tell the form
pub unique_choice : {A T : Type 0} (Form : T → Type 0) (form : (t : T) → Lang (Form t)) (build : (t : T) → Form t → A)
    (D : Lang A) (F : Follow) →
    ((y : A) (us : Tokens) → D y us → (t : T) × (q : Form t) × (y ≡ build t q) × form t q us) →
    ((t u : T) (q : Form t) (p : Form u) (us vs r s : Tokens) → form t q us → form u p vs → us ++ r ≡ vs ++ s
    → F (head r) → F (head s) → t ≡ u) →
    ((t : T) → Unique (form t) F) → Unique D F
unique_choice {A} {T} Form form build D F cases same_form one x y us vs r s d e same t u =
    let a = cases x us d in
    let b = cases y vs e in
    let forms : a.0 ≡ b.0 = same_form a.0 b.0 a.1 b.1 us vs r s a.3 b.3 same t u in
    let P : T → Type 0 = λ z. (p : Form z) → form z p vs → (build a.0 a.1 ≡ build z p) × (r ≡ s) in
    let here : P a.0 = λ p l. let o = one a.0 a.1 p us vs r s a.3 l same t u in (ap (build a.0) o.0, o.1) in
    let o = subst P forms here b.1 b.3 in
    (a.2 ∙ o.0 ∙ sym b.2, o.1)

-- the first token alone tells the form
pub by_first : {T : Type 0} (Form : T → Type 0) (form : (t : T) → Lang (Form t)) (F : Follow)
    (form_of : Option Lexeme → Option T) →
    ((t : T) (q : Form t) (us r : Tokens) → form t q us → F (head r) → form_of (head (us ++ r)) ≡ Some t) →
    (t u : T) (q : Form t) (p : Form u) (us vs r s : Tokens) → form t q us → form u p vs → us ++ r ≡ vs ++ s
    → F (head r) → F (head s) → t ≡ u
by_first Form form F form_of first t u q p us vs r s d e same f g =
    let both : Some t ≡ Some u = sym (first t q us r d f) ∙ ap (λ l. form_of (head l)) same ∙ first u p vs s e g in cc

pub unique_optional : {A : Type 0} (D : Lang A) (F : Follow) → Apart D F → Unique D F → Unique (optional D) F
unique_optional D F apart one None None us vs r s d e same t u =
    (refl, sym (ap (λ l. l ++ r) d) ∙ same ∙ ap (λ l. l ++ s) e)
unique_optional D F apart one None (Some y) us vs r s d e same t u =
    let P : Follow = F in
    let all : r ≡ vs ++ s = sym (ap (λ l. l ++ r) d) ∙ same in
    absurd (apart y vs s e (subst P (ap head all) t))
unique_optional D F apart one (Some x) None us vs r s d e same t u =
    let P : Follow = F in
    let all : s ≡ us ++ r = sym (ap (λ l. l ++ s) e) ∙ sym same in
    absurd (apart x us r d (subst P (ap head all) u))
unique_optional D F apart one (Some x) (Some y) us vs r s d e same t u = let o =
    one x y us vs r s d e same t u in (ap (λ z. Some z) o.0, o.1)

-- ---- loops

pub unique_chain : {S A : Type 0} (D : S → Lang A) (next : S → A → S) (F G : Follow) → ((s : S) → Begins (D s) G)
    → ((o : Option Lexeme) → F o → G o) → ((s : S) → Apart (D s) F) → ((s : S) → Unique (D s) G) → (s : S)
    → Unique (chain D next s) F
unique_chain D next F G begin inside apart one n [] [] us vs r s d e same t u =
    (refl, sym (ap (λ l. l ++ r) d) ∙ same ∙ ap (λ l. l ++ s) e)
unique_chain D next F G begin inside apart one n [] (y ∷ ys) us vs r s d e same t u =
    let P : Follow = F in
    let all : r ≡ e.front ++ (e.back ++ s) = sym (ap (λ l. l ++ r) d) ∙ same ∙ ap (λ l. l ++ s) e.parts
    ∙ append_assoc e.front e.back s in
    absurd (apart n y e.front (e.back ++ s) e.first (subst P (ap head all) t))
unique_chain D next F G begin inside apart one n (x ∷ xs) [] us vs r s d e same t u =
    let P : Follow = F in
    let all : s ≡ d.front ++ (d.back ++ r) = sym (ap (λ l. l ++ s) e) ∙ sym same ∙ ap (λ l. l ++ r) d.parts
    ∙ append_assoc d.front d.back r in
    absurd (apart n x d.front (d.back ++ r) d.first (subst P (ap head all) u))
unique_chain {S} {A} D next F G begin inside apart one n (x ∷ xs) (y ∷ ys) us vs r s d e same t u =
    let all : d.front ++ (d.back ++ r) ≡ e.front ++ (e.back ++ s) = one_text us vs d.front d.back e.front e.back r s
    d.parts e.parts same in
    let a = one n x y d.front e.front (d.back ++ r) (e.back ++ s) d.first e.first all
    (chain_turns D next F G begin inside (next n x) xs d.back r d.second t)
    (chain_turns D next F G begin inside (next n y) ys e.back s e.second u) in
    let P : A → Type 0 = λ z. chain D next (next n z) xs d.back in
    let b = unique_chain D next F G begin inside apart one (next n y) xs ys d.back e.back r s
    (subst P a.0 d.second) e.second a.1 t u in
    (ap (λ p. p ∷ xs) a.0 ∙ ap (λ q. y ∷ q) b.0, b.1)

pub unique_each : {A : Type 0} (D : Lang A) (F G : Follow) → Begins D G → ((o : Option Lexeme) → F o → G o)
    → Apart D F → Unique D G → Unique (one_by_one D) F
unique_each D F G begin inside apart one = unique_as (one_by_one D) (Items D tt) F (λ q. q)
    (λ y us d. (y, refl, each_chain D tt y us d))
    (unique_chain (λ s. D) (λ s x. s) F G (λ s. begin) inside (λ s. apart) (λ s. one) tt)

-- ---- lists with commas

pub unique_further : {A : Type 0} (D : Lang A) (G : Follow) → Unique D G → Unique (further D) G
unique_further D G one = unique_as (further D) (Both (TokenMark Comma) D) G (λ q. q.1) (λ y us d. ((tt, y), refl, d))
    (unique_then (TokenMark Comma) D G (unique_mark Comma) one)

pub unique_furthers : {A : Type 0} (D : Lang A) (F G : Follow) → ((o : Option Lexeme) → Is Comma o → G o)
    → ((o : Option Lexeme) → F o → G o) → ((o : Option Lexeme) → F o → Isnt Comma o) → Unique D G
    → Unique (one_by_one (further D)) F
unique_furthers D F G goes inside ends one = unique_each (further D) F G
    (begins_as (further D) (Is Comma) G goes (begins_further D)) inside
    (apart_by (further D) (Is Comma) F (λ o i f. is_isnt Comma o i (ends o f)) (begins_further D))
    (unique_further D G one)

pub unique_some : {A : Type 0} (D : Lang A) (F G : Follow) → ((o : Option Lexeme) → Is Comma o → G o)
    → ((o : Option Lexeme) → F o → G o) → ((o : Option Lexeme) → F o → Isnt Comma o) → Unique D G → Unique (Whole D) F
unique_some D F G goes inside ends one = unique_both D (one_by_one (further D)) G F
    (each_turns (further D) F G (begins_as (further D) (Is Comma) G goes (begins_further D)) inside) one
    (unique_furthers D F G goes inside ends one)

pub unique_separated : {A : Type 0} (D : Lang A) (F G : Follow) → ((o : Option Lexeme) → Is Comma o → G o)
    → ((o : Option Lexeme) → F o → G o) → ((o : Option Lexeme) → F o → Isnt Comma o) → Unique D G
    → Unique (separated D) F
unique_separated D F G goes inside ends one = unique_as (separated D) (Whole D) F joined (separated_cases D)
    (unique_some D F G goes inside ends one)

-- none, or some
abbrev pub list_of : {A : Type 0} → Option (A × List A) → List A
list_of None = []
list_of (Some q) = q.0 ∷ q.1

listed_cases : {A : Type 0} (D : Lang A) (y : List A) (us : Tokens) → comma_list D y us → (q : Option (A × List A))
    × (y ≡ list_of q) × optional (Whole D) q us
listed_cases D [] us d = (None, refl, d)
listed_cases D (x ∷ xs) us d = (Some (x, xs), refl, d)

pub unique_listed : {A : Type 0} (D : Lang A) (F G : Follow) → ((o : Option Lexeme) → Is Comma o → G o)
    → ((o : Option Lexeme) → F o → G o) → ((o : Option Lexeme) → F o → Isnt Comma o) → Apart D F → Unique D G
    → Unique (comma_list D) F
unique_listed D F G goes inside ends apart one = unique_as (comma_list D) (optional (Whole D)) F list_of
    (listed_cases D)
    (unique_optional (Whole D) F (λ x us r d f. let P : Follow = F in
    apart x.0 d.front (d.back ++ r) d.first
    (subst P (ap head (ap (λ l. l ++ r) d.parts ∙ append_assoc d.front d.back r)) f))
    (unique_some D F G goes inside ends one))

-- ---- what no tree begins with

-- a token that begins no form
pub none_at : {T : Type 0} (form_of : Option Lexeme → Option T) (k : Lexical)
    → ((at : Spot) → form_of (Some (record { kind = k; at = at })) ≡ None) → (o : Option Lexeme)
    → ((t : T) × (form_of o ≡ Some t)) → Is k o → ⊥
none_at form_of k none o s i = let h : None ≡ Some s.0 = sym (of_kind k (λ o. form_of o ≡ None) none o i) ∙ s.1 in cc

pub isnt_at : {T : Type 0} (form_of : Option Lexeme → Option T) (k : Lexical)
    → ((at : Spot) → form_of (Some (record { kind = k; at = at })) ≡ None) → (o : Option Lexeme)
    → ((t : T) × (form_of o ≡ Some t)) → Isnt k o
isnt_at form_of k none None s = tt
isnt_at form_of k none (Some t) s = λ e. none_at form_of k none (Some t) s e

-- ---- a closing token

pub unique_closing : {A : Type 0} (D : Lang A) (F : Follow) (k : Lexical) → ((o : Option Lexeme) → Is k o → F o)
    → Unique D F → Unique (Both D (TokenMark k)) Always
unique_closing D F k f one = unique_both D (TokenMark k) F Always
    (links_by (TokenMark k) (Is k) F f (begins_mark k) Always) one (unique_mark k)
