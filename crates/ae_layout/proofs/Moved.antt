-- Tokens of the same kinds at other places stand for the same program but for places.
use Rattle.std.proofs.Common.{◌≡◌, ◌≢◌, ℕ, ◌+◌, inl, inr, List, [], ◌∷◌, ◌++◌, map, Option, None, Some, refl, sym}
use Rattle.std.proofs.Common.{ap, ◌∙◌}
use Rattle.ae_text.specs.declared.refusal.Spot.{Spot}
use Rattle.ae_text.specs.declared.token.Keyword.{Keyword}
use Rattle.ae_text.specs.declared.token.Keyword.TheVariants as word
use Rattle.ae_text.specs.declared.token.Sign.{Sign}
use Rattle.ae_text.specs.declared.token.Sign.TheVariants as sign
use Rattle.ae_tree.specs.declared.lexeme.Lexical.{Lexical}
use Rattle.ae_tree.specs.declared.lexeme.Lexical.TheVariants as tok
use Rattle.ae_tree.specs.declared.lexeme.Lexeme.{Lexeme}
use Rattle.ae_tree.specs.declared.tree.NameAt.{NameAt}
use Rattle.ae_tree.specs.declared.tree.PermAt.{PermAt}
use Rattle.ae_tree.specs.declared.tree.PermAt.TheVariants as perm_at
use Rattle.ae_tree.specs.declared.tree.KindAt.{KindAt}
use Rattle.ae_tree.specs.declared.tree.KindAt.TheVariants as kind_at
use Rattle.ae_tree.specs.declared.tree.Path.{Path}
use Rattle.ae_tree.specs.declared.tree.Ty.{Ty}
use Rattle.ae_tree.specs.declared.tree.Ty.TheVariants as ty
use Rattle.ae_tree.specs.Plain.{Expression, Number, Truth, Nothing, Read, Item, Length, Grouped, Negated, Minus}
use Rattle.ae_tree.specs.Plain.{Binary, Invocation, RightSide, Value, Taken, Zeros, Made, Returned}
use Rattle.ae_tree.specs.Grammar.{Tokens, ◌⨾◌, one_at, one_token, a_word, a_sign, no_tokens, one_by_one, further}
use Rattle.ae_tree.specs.Grammar.{separated, comma_list, name, root, path_step, path, groups, permission, kind}
use Rattle.ae_tree.specs.Grammar.{type_, level, left_level, sign_of, truth_word, expression_at, whole_expression}
use Rattle.ae_tree.specs.Grammar.{arguments, receiver, call_written, right_of_equals}
use Rattle.ae_layout.specs.Places.{nowhere, optional, unplaced_name, unplaced_permission, unplaced_kind}
use Rattle.ae_layout.specs.Places.{unplaced_type, unplaced_path, unplaced_expression, unplaced_call, unplaced_right}

-- ---- equations of several arguments

pub ap2 : {A B C : Type 0} (f : A → B → C) {a a' : A} {b b' : B} → a ≡ a' → b ≡ b' → f a b ≡ f a' b'
ap2 f {a} {a'} {b} {b'} p q = ap (λ x. f x b) p ∙ ap (f a') q

pub ap3 : {A B C D : Type 0} (f : A → B → C → D) {a a' : A} {b b' : B} {c c' : C} → a ≡ a' → b ≡ b' → c ≡ c'
    → f a b c ≡ f a' b' c'
ap3 f {a} {a'} {b} {b'} {c} {c'} p q r = ap (λ x. f x b c) p ∙ ap2 (f a') q r

pub ap4 : {A B C D E : Type 0} (f : A → B → C → D → E) {a a' : A} {b b' : B} {c c' : C} {d d' : D} → a ≡ a' → b ≡ b'
    → c ≡ c' → d ≡ d' → f a b c d ≡ f a' b' c' d'
ap4 f {a} {a'} {b} {b'} {c} {c'} {d} {d'} p q r s = ap (λ x. f x b c d) p ∙ ap3 (f a') q r s

-- ---- texts of the same kinds

abbrev pub kinds : Tokens → List Lexical
kinds = map (λ (t : Lexeme). t.kind)

-- where one text is cut, the other is cut too
pub record Cut (a b vs : Tokens) : Type 0 where
  pub front : Tokens
  pub back : Tokens
  pub parts : vs ≡ front ++ back
  pub first : kinds a ≡ kinds front
  pub second : kinds b ≡ kinds back

pub cut : (a b vs : Tokens) → kinds (a ++ b) ≡ kinds vs → Cut a b vs
cut [] b vs e = record { front = []; back = vs; parts = refl; first = refl; second = e }
cut (x ∷ a) b [] e = absurd (cc)
cut (x ∷ a) b (y ∷ vs) e =
    let head : x.kind ≡ y.kind = cc in
    let tail : kinds (a ++ b) ≡ kinds vs = cc in
    let c : Cut a b vs = cut a b vs tail in
    record {
      front = y ∷ c.front;
      back = c.back;
      parts = ap (λ l. y ∷ l) c.parts;
      first =
          ap2 (λ k l. k ∷ l) head c.first;
      second = c.second;
    }

abbrev pub Lang : Type 0 → Type 1
Lang A = A → Tokens → Type 0

-- a tree of the language for these tokens, which is the same but for places
pub record Again {A : Type 0} (E : Lang A) (S : A → Type 0) (vs : Tokens) : Type 0 where
  pub y : A
  pub is : E y vs
  pub same : S y

-- tokens of the same kinds as those of p stand for a tree of E
abbrev pub Moves : {A : Type 0} → (Tokens → Type 0) → Lang A → (A → Type 0) → Type 0
Moves p E S = (us vs : Tokens) → kinds us ≡ kinds vs → p us → Again E S vs

-- for a tree that is the same without places
abbrev pub Moved : {A B : Type 0} → Lang A → (A → B) → A → Type 0
Moved E bare x = Moves (E x) E (λ y. bare y ≡ bare x)

pub moves_then : {A B : Type 0} {p q : Tokens → Type 0} {E : Lang A} {F : Lang B} {S : A → Type 0} {T : B → Type 0} →
    Moves p E S → Moves q F T → Moves (p ⨾ q) (λ (y : A × B). E y.0 ⨾ F y.1) (λ (y : A × B). S y.0 × T y.1)
moves_then m n us vs e d =
    let c : Cut d.front d.back vs = cut d.front d.back vs (ap kinds (sym d.parts) ∙ e) in
    let a = m d.front c.front c.first d.first in
    let b = n d.back c.back c.second d.second in
    record {
      y = (a.y, b.y);
      is = record
          { front = c.front; back = c.back; parts = c.parts; first = a.is; second = b.is };
      same = (a.same, b.same);
    }

-- the one token of a text of one token
pub moves_one : (k : Lexical) (at : Spot) (us vs : Tokens) → kinds us ≡ kinds vs → one_at k at us → one_token k vs
moves_one k at us [] e d = let none : k ∷ [] ≡ [] = ap kinds (sym d) ∙ e in absurd (cc)
moves_one k at us (y ∷ []) e d =
    let all : k ∷ [] ≡ y.kind ∷ [] = ap kinds (sym d) ∙ e in
    let kind : k ≡ y.kind = cc in
    (y.at, ap (λ j. record { kind = j; at = y.at } ∷ []) (sym kind))
moves_one k at us (y ∷ z ∷ vs) e d = let all : k ∷ [] ≡ y.kind ∷ z.kind ∷ kinds vs = ap kinds (sym d) ∙ e in absurd (cc)

pub moves_at : (k : Lexical) (at : Spot) → Moves (one_at k at) (one_at k) (λ y. Unit {0})
moves_at k at us vs e d = let m = moves_one k at us vs e d in record { y = m.0; is = m.1; same = tt }

pub moves_mark : (k : Lexical) → Moves (one_token k) (λ (y : Unit {0}). one_token k) (λ y. Unit {0})
moves_mark k us vs e d = record { y = tt; is = moves_one k d.0 us vs e d.1; same = tt }

pub moves_sign : (g : Sign) → Moves (a_sign g) (λ (y : Unit {0}). a_sign g) (λ y. Unit {0})
moves_sign g = moves_mark (tok.Sign g)

pub moves_word : (w : Keyword) → Moves (a_word w) (λ (y : Unit {0}). a_word w) (λ y. Unit {0})
moves_word w = moves_mark (tok.Word w)

pub nothing_stays_nothing : (us vs : Tokens) → kinds us ≡ kinds vs → no_tokens us → no_tokens vs
nothing_stays_nothing us [] e d = refl
nothing_stays_nothing us (y ∷ vs) e d = let none : [] ≡ y.kind ∷ kinds vs = ap kinds (sym d) ∙ e in absurd (cc)

-- ---- lists

pub moved_each : {A B : Type 0} (D : Lang A) (bare : A → B) → ((x : A) → Moved D bare x) → (xs : List A)
    → Moved (one_by_one D) (map bare) xs
moved_each D bare m [] us vs e d = record { y = []; is = nothing_stays_nothing us vs e d; same = refl }
moved_each D bare m (x ∷ xs) us vs e d =
    let a = moves_then (m x) (moved_each D bare m xs) us vs e d in
    record { y = a.y.0 ∷ a.y.1; is = a.is; same = ap2 (λ z zs. z ∷ zs) a.same.0 a.same.1 }

pub moved_further : {A B : Type 0} (D : Lang A) (bare : A → B) → ((x : A) → Moved D bare x) → (x : A)
    → Moved (further D) bare x
moved_further D bare m x us vs e d =
    let a = moves_then (moves_sign sign.Comma) (m x) us vs e d in
    record { y = a.y.1; is = a.is; same = a.same.1 }

pub moved_separated : {A B : Type 0} (D : Lang A) (bare : A → B) → ((x : A) → Moved D bare x) → (xs : List A)
    → Moved (separated D) (map bare) xs
moved_separated D bare m [] us vs e d = absurd d
moved_separated D bare m (x ∷ xs) us vs e d =
    let a = moves_then (m x) (moved_each (further D) bare (moved_further D bare m) xs) us vs e d in
    record { y = a.y.0 ∷ a.y.1; is = a.is; same = ap2 (λ z zs. z ∷ zs) a.same.0 a.same.1 }

pub moved_listed : {A B : Type 0} (D : Lang A) (bare : A → B) → ((x : A) → Moved D bare x) → (xs : List A)
    → Moved (comma_list D) (map bare) xs
moved_listed D bare m [] us vs e d = record { y = []; is = nothing_stays_nothing us vs e d; same = refl }
moved_listed D bare m (x ∷ xs) us vs e d =
    let a = moves_then (m x) (moved_each (further D) bare (moved_further D bare m) xs) us vs e d in
    record { y = a.y.0 ∷ a.y.1; is = a.is; same = ap2 (λ z zs. z ∷ zs) a.same.0 a.same.1 }

pub not_empty : {A B : Type 0} (bare : A → B) (xs ys : List A) → map bare ys ≡ map bare xs → xs ≢ [] → ys ≢ []
not_empty bare [] ys e n none = absurd (n refl)
not_empty bare (x ∷ xs) ys e n none = let all : [] ≡ bare x ∷ map bare xs = ap (map bare) (sym none) ∙ e in absurd (cc)

-- ---- names, paths and types

pub moved_name : (x : NameAt) → Moved name unplaced_name x
moved_name x us vs e d = let m = moves_one (tok.Name x.name) x.at us vs e d in record
    { y = record { name = x.name; at = m.0 }; is = m.1; same = refl }

pub moved_names : (xs : List NameAt) → Moved (separated name) (map unplaced_name) xs
moved_names = moved_separated name unplaced_name moved_name

pub moved_root : (x : NameAt) → Moved root unplaced_name x
moved_root x us vs e (inl d) = let m = moves_one (tok.Name x.name) x.at us vs e d in record
    { y = record { name = x.name; at = m.0 }; is = inl m.1; same = refl }
moved_root x us vs e (inr d) = let m = moves_one (tok.Word word.This) x.at us vs e d.1 in record
    { y = record { name = x.name; at = m.0 }; is = inr (d.0, m.1); same = refl }

pub moved_step : (x : NameAt) → Moved path_step unplaced_name x
moved_step x us vs e d = let a = moves_then (moves_sign sign.Dot) (moved_name x) us vs e d in record
    { y = a.y.1; is = a.is; same = a.same.1 }

pub moved_path : (p : Path) → Moved path unplaced_path p
moved_path p us vs e d =
    let a = moves_then (moved_root p.root) (moved_each path_step unplaced_name moved_step p.steps) us vs e d in
    record {
      y = record { root = a.y.0; steps = a.y.1 };
      is = a.is;
      same = ap2 (λ r s. record { root = r; steps = s })
          a.same.0 a.same.1;
    }

pub moved_groups : (gs : List NameAt) → Moved groups (map unplaced_name) gs
moved_groups [] us vs e d = record { y = []; is = nothing_stays_nothing us vs e d; same = refl }
moved_groups (g ∷ gs) us vs e d =
    let a = moves_then (moves_sign sign.Less)
    (moves_then (moves_then (moved_name g)
    (moved_each (further name) unplaced_name (moved_further name unplaced_name moved_name) gs))
    (moves_sign sign.Greater)) us vs e d in
    record { y = a.y.1.0.0 ∷ a.y.1.0.1; is = a.is; same = ap2 (λ z zs. z ∷ zs) a.same.1.0.0 a.same.1.0.1 }

pub moved_permission : (p : PermAt) → Moved permission unplaced_permission p
moved_permission (perm_at.Unique at) us vs e d = let m = moves_one (tok.Word word.Unique) at us vs e d in record
    { y = perm_at.Unique m.0; is = m.1; same = refl }
moved_permission (perm_at.Immutable at) us vs e d = let m = moves_one (tok.Word word.Immutable) at us vs e d in record
    { y = perm_at.Immutable m.0; is = m.1; same = refl }
moved_permission (perm_at.Lent at) us vs e d = let m = moves_one (tok.Word word.Lent) at us vs e d in record
    { y = perm_at.Lent m.0; is = m.1; same = refl }
moved_permission (perm_at.Shared at g) us vs e d =
    let a = moves_then (moves_at (tok.Word word.Shared) at)
    (moves_then (moves_sign sign.Less) (moves_then (moved_name g) (moves_sign sign.Greater))) us vs e d in
    record { y = perm_at.Shared a.y.0 a.y.1.1.0; is = a.is; same = ap (perm_at.Shared nowhere) a.same.1.1.0 }

pub moved_kind : (k : KindAt) → Moved kind unplaced_kind k
moved_kind (kind_at.Ints at) us vs e d = let m = moves_one (tok.Word word.Ints) at us vs e d in record
    { y = kind_at.Ints m.0; is = m.1; same = refl }
moved_kind (kind_at.Class c gs) us vs e d =
    let a = moves_then (moved_name c) (moved_groups gs) us vs e d in
    record { y = kind_at.Class a.y.0 a.y.1; is = a.is; same = ap2 kind_at.Class a.same.0 a.same.1 }

pub moved_type : (t : Ty) → Moved type_ unplaced_type t
moved_type (ty.Int at) us vs e d = let m = moves_one (tok.Word word.Int) at us vs e d in record
    { y = ty.Int m.0; is = m.1; same = refl }
moved_type (ty.Bool at) us vs e d = let m = moves_one (tok.Word word.Bool) at us vs e d in record
    { y = ty.Bool m.0; is = m.1; same = refl }
moved_type (ty.Object p k) us vs e d =
    let a = moves_then (moved_permission p) (moved_kind k) us vs e d in
    record { y = ty.Object a.y.0 a.y.1; is = a.is; same = ap2 ty.Object a.same.0 a.same.1 }

-- ---- expressions

pub moved_expression : (x : Expression) (l : ℕ) → Moves (expression_at x l) (λ y. expression_at y l)
    (λ y. unplaced_expression y ≡ unplaced_expression x)
moved_expression (Number n at) l us vs e d = let m = moves_one (tok.Int n) at us vs e d in record
    { y = Number n m.0; is = m.1; same = refl }
moved_expression (Truth b at) l us vs e d = let m = moves_one (tok.Word (truth_word b)) at us vs e d in record
    { y = Truth b m.0; is = m.1; same = refl }
moved_expression (Nothing at) l us vs e d = let m = moves_one (tok.Word word.Null) at us vs e d in record
    { y = Nothing m.0; is = m.1; same = refl }
moved_expression (Read p) l us vs e d = let a = moved_path p us vs e d in record
    { y = Read a.y; is = a.is; same = ap Read a.same }
moved_expression (Item p x) l us vs e d =
    let a = moves_then (moved_path p)
    (moves_then (moves_sign sign.OpenBracket) (moves_then (moved_expression x 0) (moves_sign sign.CloseBracket)))
    us vs e d in
    record { y = Item a.y.0 a.y.1.1.0; is = a.is; same = ap2 Item a.same.0 a.same.1.1.0 }
moved_expression (Length p at) l us vs e d =
    let a = moves_then (moves_at (tok.Word word.Len) at) (moved_path p) us vs e d in
    record { y = Length a.y.1 a.y.0; is = a.is; same = ap (λ q. Length q nowhere) a.same.1 }
moved_expression (Grouped x at) l us vs e d =
    let a = moves_then (moves_at (tok.Sign sign.OpenParen) at)
    (moves_then (moved_expression x 0) (moves_sign sign.CloseParen)) us vs e d in
    record { y = Grouped a.y.1.0 a.y.0; is = a.is; same = ap (λ z. Grouped z nowhere) a.same.1.0 }
moved_expression (Negated x at) l us vs e d =
    let a = moves_then (moves_at (tok.Sign sign.Not) at) (moved_expression x 5) us vs e d in
    record { y = Negated a.y.1 a.y.0; is = a.is; same = ap (λ z. Negated z nowhere) a.same.1 }
moved_expression (Minus x at) l us vs e d =
    let a = moves_then (moves_at (tok.Sign sign.Minus) at) (moved_expression x 5) us vs e d in
    record { y = Minus a.y.1 a.y.0; is = a.is; same = ap (λ z. Minus z nowhere) a.same.1 }
moved_expression (Binary o x y) l us vs e d =
    let a = moves_then (moved_expression x (left_level o))
    (moves_then (moves_sign (sign_of o)) (moved_expression y (level o + 1))) us vs e d.1 in
    record { y = Binary o a.y.0 a.y.1.1; is = (d.0, a.is); same = ap2 (Binary o) a.same.0 a.same.1.1 }

pub moved_whole : (x : Expression) → Moved whole_expression unplaced_expression x
moved_whole x = moved_expression x 0

-- ---- calls and right sides

pub moved_arguments : (es : List Expression) → Moved arguments (map unplaced_expression) es
moved_arguments es us vs e d =
    let a = moves_then (moves_sign sign.OpenParen)
    (moves_then (moved_listed whole_expression unplaced_expression moved_whole es) (moves_sign sign.CloseParen))
    us vs e d in
    record { y = a.y.1.0; is = a.is; same = a.same.1.0 }

pub moved_receiver : (r : Option Path) → Moved receiver (optional unplaced_path) r
moved_receiver None us vs e d = record { y = None; is = nothing_stays_nothing us vs e d; same = refl }
moved_receiver (Some p) us vs e d =
    let a = moves_then (moved_path p) (moves_sign sign.Dot) us vs e d in
    record { y = Some a.y.0; is = a.is; same = ap Some a.same.0 }

call_of : Option Path → NameAt → List NameAt → List Expression → Invocation
call_of on method groups args = record { on = on; method = method; groups = groups; args = args }

pub moved_call : (c : Invocation) → Moved call_written unplaced_call c
unfolding call_of
moved_call c us vs e d =
    let a = moves_then (moved_receiver c.on)
    (moves_then (moved_name c.method) (moves_then (moved_groups c.groups) (moved_arguments c.args))) us vs e d in
    record {
      y = call_of a.y.0 a.y.1.0 a.y.1.1.0 a.y.1.1.1;
      is = a.is;
      same =
          ap4 call_of a.same.0 a.same.1.0 a.same.1.1.0 a.same.1.1.1;
    }

pub moved_right : (r : RightSide) → Moved right_of_equals unplaced_right r
moved_right (Value x) us vs e d = let a = moved_whole x us vs e d in record
    { y = Value a.y; is = a.is; same = ap Value a.same }
moved_right (Taken p at) us vs e d =
    let a = moves_then (moves_at (tok.Word word.Take) at) (moved_path p) us vs e d.1 in
    record {
      y = Taken a.y.1 a.y.0;
      is =
          (not_empty unplaced_name p.steps a.y.1.steps (ap (λ (q : Path). q.steps) a.same.1) d.0, a.is);
      same =
          ap (λ q. Taken q nowhere) a.same.1;
    }
moved_right (Zeros x at) us vs e d =
    let a = moves_then (moves_at (tok.Word word.New) at)
    (moves_then (moves_word word.Ints)
    (moves_then (moves_sign sign.OpenParen) (moves_then (moved_whole x) (moves_sign sign.CloseParen)))) us vs e
    d in
    record { y = Zeros a.y.1.1.1.0 a.y.0; is = a.is; same = ap (λ z. Zeros z nowhere) a.same.1.1.1.0 }
moved_right (Made c gs es at) us vs e d =
    let a = moves_then (moves_at (tok.Word word.New) at)
    (moves_then (moved_name c) (moves_then (moved_groups gs) (moved_arguments es))) us vs e d in
    record {
      y = Made a.y.1.0 a.y.1.1.0 a.y.1.1.1 a.y.0;
      is = a.is;
      same =
          ap3 (λ x xs zs. Made x xs zs nowhere) a.same.1.0 a.same.1.1.0 a.same.1.1.1;
    }
moved_right (Returned c) us vs e d = let a = moved_call c us vs e d in record
    { y = Returned a.y; is = a.is; same = ap Returned a.same }
