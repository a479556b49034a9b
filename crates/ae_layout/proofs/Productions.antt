-- The tokens of each form of a program are those of its lines, where every number of a name is spelled again.
use Rattle.std.proofs.Common.{◌≡◌, ◌≢◌, ℕ, ◌+◌, Bool, true, false, ◌==◌, if◌then◌else◌, inl, inr, List, [], ◌∷◌}
use Rattle.std.proofs.Common.{◌++◌, map, Option, None, Some, refl, sym, ap, ◌∙◌, subst, append_assoc, eqb-true}
use Rattle.std.proofs.lemmas.List.{map-append}
use Rattle.ae_text.specs.declared.refusal.Spot.{Spot}
use Rattle.ae_text.specs.declared.token.Keyword.TheVariants as word
use Rattle.ae_text.specs.declared.token.Sign.TheVariants as sign
use Rattle.ae_text.specs.declared.token.TokenKind.{TokenKind}
use Rattle.ae_text.specs.declared.token.TokenKind.TheVariants as t
use Rattle.ae_tree.specs.declared.lexeme.Lexical.{Lexical}
use Rattle.ae_tree.specs.declared.lexeme.Lexical.TheVariants as tok
use Rattle.ae_tree.specs.declared.lexeme.Lexeme.{Lexeme}
use Rattle.ae_tree.specs.declared.tree.NameAt.{NameAt}
use Rattle.ae_tree.specs.declared.tree.PermAt.{PermAt}
use Rattle.ae_tree.specs.declared.tree.PermAt.TheVariants as perm
use Rattle.ae_tree.specs.declared.tree.KindAt.{KindAt}
use Rattle.ae_tree.specs.declared.tree.KindAt.TheVariants as kind_at
use Rattle.ae_tree.specs.declared.tree.Ty.{Ty}
use Rattle.ae_tree.specs.declared.tree.Ty.TheVariants as ty
use Rattle.ae_tree.specs.declared.tree.Path.{Path}
use Rattle.ae_tree.specs.Plain.{Expression, Number, Truth, Nothing, Read, Item, Length, Grouped, Negated, Minus}
use Rattle.ae_tree.specs.Plain.{Binary, Invocation, RightSide, Value, Taken, Zeros, Made, Returned}
use Rattle.ae_tree.specs.Grammar.{Tokens, Then, one_at, one_token, no_tokens, one_by_one, further, separated}
use Rattle.ae_tree.specs.Grammar.{comma_list as some_listed, name, root, path_step, path, groups, permission, kind}
use Rattle.ae_tree.specs.Grammar.{type_, sign_of, truth_word, left_level, level, expression_at, whole_expression}
use Rattle.ae_tree.specs.Grammar.{arguments, receiver, call_written, right_of_equals}
use Rattle.ae_layout.specs.Spelling.{Printed}
use Rattle.ae_layout.specs.Layout.{Spellings, token, near, far, name_kind, name_tokens, after_commas, with_commas}
use Rattle.ae_layout.specs.Layout.{groups_tokens, root_kind, steps_tokens, path_tokens, perm_tokens, kind_tokens}
use Rattle.ae_layout.specs.Layout.{type_tokens, expression_tokens, arguments_tokens, method_tokens, call_tokens}
use Rattle.ae_layout.specs.Layout.{right_tokens}
use Rattle.ae_layout.specs.Rows.{Every, kinds}
use Rattle.ae_layout.proofs.Cut.{every_front, every_back}

-- ---- lexemes as tokens

-- a lexeme's kind as that of a token: a name by its spelling
abbrev pub kind_of : Spellings → Lexical → TokenKind
kind_of names (tok.Name n) = name_kind names n
kind_of names (tok.Int n) = t.Int n
kind_of names (tok.Text s) = t.Text s
kind_of names (tok.Word w) = t.Word w
kind_of names (tok.Sign g) = t.Sign g
kind_of names tok.End = t.End

abbrev pub shown : Spellings → Tokens → List TokenKind
shown names = map (λ u. kind_of names u.kind)

-- no name has the number of the word `this`
abbrev pub Clean : Tokens → Type 0
Clean = Every (λ u. u.kind ≢ tok.Name 2)

-- these lexemes, and then rest, are out
pub record Shows (names : Spellings) (us : Tokens) (rest out : List TokenKind) : Type 0 where
  pub are : Clean us → shown names us ++ rest ≡ out

-- what this language describes has the tokens xs
abbrev pub Puts : Spellings → (Tokens → Type 0) → List Printed → Type 0
Puts names D xs = (us : Tokens) (rest : List TokenKind) → D us → Shows names us rest (kinds xs ++ rest)

-- first the one, then the other
pub seq : {p q : Tokens → Type 0} {names : Spellings} {us : Tokens} {rest mid out : List TokenKind} (d : Then p q us)
    → Shows names d.front mid out → Shows names d.back rest mid → Shows names us rest out
seq {p} {q} {names} {us} {rest} {mid} {out} d f g = record {
  are = λ c.
      let P : Tokens → Type 0 = Clean in
      let both : Clean (d.front ++ d.back) = subst P d.parts c in
      ap (λ l. shown names l ++ rest) d.parts
      ∙ ap (λ l. l ++ rest) (map-append (λ (u : Lexeme). kind_of names u.kind) d.front d.back)
      ∙ append_assoc (shown names d.front) (shown names d.back) rest
      ∙ ap (λ l. shown names d.front ++ l) (g.are (every_back _ d.front d.back both))
      ∙ f.are (every_front _ d.front d.back both);
}

-- one token
pub mark : {names : Spellings} {k : Lexical} {at : Spot} {us : Tokens} {rest : List TokenKind} → one_at k at us
    → Shows names us rest (kind_of names k ∷ rest)
mark {names} {k} {at} {us} {rest} e = record { are = λ c. ap (λ l. shown names l ++ rest) e }

pub mark_any : {names : Spellings} {k : Lexical} {us : Tokens} {rest : List TokenKind} → one_token k us
    → Shows names us rest (kind_of names k ∷ rest)
mark_any d = mark d.1

pub none : {names : Spellings} {us : Tokens} {rest : List TokenKind} → no_tokens us → Shows names us rest rest
none {names} {us} {rest} e = record { are = λ c. ap (λ l. shown names l ++ rest) e }

-- the same tokens, grouped otherwise
pub grouped : {names : Spellings} {us : Tokens} {rest out other : List TokenKind} → Shows names us rest out
    → other ≡ out → Shows names us rest other
grouped s e = record { are = λ c. s.are c ∙ sym e }

-- ---- tokens of a line, part by part

pub cat2 : (a b : List Printed) (r : List TokenKind) → kinds (a ++ b) ++ r ≡ kinds a ++ (kinds b ++ r)
cat2 a b r = ap (λ l. l ++ r) (map-append (λ (x : Printed). x.kind) a b) ∙ append_assoc (kinds a) (kinds b) r

pub cat3 : (a b c : List Printed) (r : List TokenKind) → kinds ((a ++ b) ++ c) ++ r ≡ kinds a
    ++ (kinds b ++ (kinds c ++ r))
cat3 a b c r = cat2 (a ++ b) c r ∙ cat2 a b (kinds c ++ r)

pub cat4 : (a b c d : List Printed) (r : List TokenKind) → kinds (((a ++ b) ++ c) ++ d) ++ r ≡ kinds a
    ++ (kinds b ++ (kinds c ++ (kinds d ++ r)))
cat4 a b c d r = cat2 ((a ++ b) ++ c) d r ∙ cat3 a b c (kinds d ++ r)

pub cat5 : (a b c d e : List Printed) (r : List TokenKind) → kinds ((((a ++ b) ++ c) ++ d) ++ e) ++ r ≡ kinds a
    ++ (kinds b ++ (kinds c ++ (kinds d ++ (kinds e ++ r))))
cat5 a b c d e r = cat2 (((a ++ b) ++ c) ++ d) e r ∙ cat4 a b c d (kinds e ++ r)

-- ---- names and lists

pub name_puts : (names : Spellings) (close : Bool) (x : NameAt) → Puts names (name x) (name_tokens names close x)
name_puts names close x us rest d = mark d

pub commas_put : {A : Type 0} (names : Spellings) (D : A → Tokens → Type 0) (f : A → List Printed)
    → ((x : A) → Puts names (D x) (f x)) → (xs : List A) → Puts names (one_by_one (further D) xs) (after_commas f xs)
commas_put names D f h [] us rest d = none d
commas_put names D f h (x ∷ xs) us rest d = grouped
    (seq d (seq d.first (mark_any d.first.first) (h x _ _ d.first.second)) (commas_put names D f h xs _ _ d.second))
    (cat2 (near (t.Sign sign.Comma) ∷ f x) (after_commas f xs) rest)

pub separated_put : {A : Type 0} (names : Spellings) (D : A → Tokens → Type 0) (f : Bool → A → List Printed)
    (close : Bool) → ((c : Bool) (x : A) → Puts names (D x) (f c x)) → (x : A) (xs : List A)
    → Puts names (separated D (x ∷ xs)) (with_commas f close (x ∷ xs))
separated_put names D f close h x xs us rest d = grouped
    (seq d (h close x _ _ d.first) (commas_put names D (f false) (h false) xs _ _ d.second))
    (cat2 (f close x) (after_commas (f false) xs) rest)

pub separated_all : {A : Type 0} (names : Spellings) (D : A → Tokens → Type 0) (f : Bool → A → List Printed)
    (close : Bool) → ((c : Bool) (x : A) → Puts names (D x) (f c x)) → (xs : List A)
    → Puts names (separated D xs) (with_commas f close xs)
separated_all names D f close h [] us rest d = absurd d
separated_all names D f close h (x ∷ xs) us rest d = separated_put names D f close h x xs us rest d

pub listed_put : {A : Type 0} (names : Spellings) (D : A → Tokens → Type 0) (f : Bool → A → List Printed)
    (close : Bool) → ((c : Bool) (x : A) → Puts names (D x) (f c x)) → (xs : List A)
    → Puts names (some_listed D xs) (with_commas f close xs)
listed_put names D f close h [] us rest d = none d
listed_put names D f close h (x ∷ xs) us rest d = separated_put names D f close h x xs us rest d

pub groups_put : (names : Spellings) (gs : List NameAt) → Puts names (groups gs) (groups_tokens names gs)
groups_put names [] us rest d = none d
groups_put names (g ∷ gs) us rest d = grouped
    (seq d (mark_any d.first) (seq d.second
    (separated_put names name (name_tokens names) true (name_puts names) g gs _ _ d.second.first)
    (mark_any d.second.second)))
    (cat2 (near (t.Sign sign.Less) ∷ with_commas (name_tokens names) true (g ∷ gs)) (near (t.Sign sign.Greater) ∷ [])
    rest)

-- ---- paths and types

root_named : (names : Spellings) (n : ℕ) → tok.Name n ≢ tok.Name 2 → root_kind names n ≡ name_kind names n
root_named names n other = by (n == 2) refl
  where
    by : (b : Bool) → (n == 2) ≡ b → (if b then t.Word word.This else name_kind names n) ≡ name_kind names n
    by true e = absurd (other (ap tok.Name (eqb-true n 2 e)))
    by false e = refl

root_this : (names : Spellings) (n : ℕ) → n ≡ 2 → root_kind names n ≡ t.Word word.This
root_this names n e = ap (root_kind names) e

root_puts : (names : Spellings) (close : Bool) (x : NameAt)
    → Puts names (root x) (token close (root_kind names x.name) ∷ [])
root_puts names close x us rest (inl e) = record {
  are = λ c.
      let P : Tokens → Type 0 = Clean in
      let other : Clean (record { kind = tok.Name x.name; at = x.at } ∷ []) = subst P e c in
      ap (λ l. shown names l ++ rest) e ∙ ap (λ k. k ∷ rest) (sym (root_named names x.name other.0));
}
root_puts names close x us rest (inr d) = grouped (mark d.1) (ap (λ k. k ∷ rest) (root_this names x.name d.0))

steps_put : (names : Spellings) (xs : List NameAt) → Puts names (one_by_one path_step xs) (steps_tokens names xs)
steps_put names [] us rest d = none d
steps_put names (x ∷ xs) us rest d = seq d (seq d.first (mark_any d.first.first) (mark d.first.second))
    (steps_put names xs _ _ d.second)

pub path_puts : (names : Spellings) (close : Bool) (p : Path) → Puts names (path p) (path_tokens names close p)
path_puts names close p us rest d = seq d (root_puts names close p.root _ _ d.first)
    (steps_put names p.steps _ _ d.second)

pub perm_puts : (names : Spellings) (close : Bool) (p : PermAt) → Puts names (permission p) (perm_tokens names close p)
perm_puts names close (perm.Unique at) us rest d = mark d
perm_puts names close (perm.Immutable at) us rest d = mark d
perm_puts names close (perm.Lent at) us rest d = mark d
perm_puts names close (perm.Shared at g) us rest d = seq d (mark d.first)
    (seq d.second (mark_any d.second.first)
    (seq d.second.second (mark d.second.second.first) (mark_any d.second.second.second)))

pub kind_puts : (names : Spellings) (k : KindAt) → Puts names (kind k) (kind_tokens names k)
kind_puts names (kind_at.Ints at) us rest d = mark d
kind_puts names (kind_at.Class c gs) us rest d = seq d (mark d.first) (groups_put names gs _ _ d.second)

pub type_puts : (names : Spellings) (close : Bool) (y : Ty) → Puts names (type_ y) (type_tokens names close y)
type_puts names close (ty.Int at) us rest d = mark d
type_puts names close (ty.Bool at) us rest d = mark d
type_puts names close (ty.Object p k) us rest d = grouped
    (seq d (perm_puts names close p _ _ d.first) (kind_puts names k _ _ d.second))
    (cat2 (perm_tokens names close p) (kind_tokens names k) rest)

-- ---- expressions

truth_same : (b : Bool) → truth_word b ≡ truth_word b
truth_same true = refl
truth_same false = refl

pub expression_puts : (names : Spellings) (close : Bool) (e : Expression) (l : ℕ)
    → Puts names (expression_at e l) (expression_tokens names close e)
expression_puts names close (Number n at) l us rest d = mark d
expression_puts names close (Truth b at) l us rest d = grouped (mark d) (ap (λ w. t.Word w ∷ rest) (sym (truth_same b)))
expression_puts names close (Nothing at) l us rest d = mark d
expression_puts names close (Read p) l us rest d = path_puts names close p us rest d
expression_puts names close (Item p e) l us rest d = grouped
    (seq d (path_puts names close p _ _ d.first)
    (seq d.second (mark_any d.second.first)
    (seq d.second.second (expression_puts names true e 0 _ _ d.second.second.first)
    (mark_any d.second.second.second))))
    (cat3 (path_tokens names close p) (near (t.Sign sign.OpenBracket) ∷ expression_tokens names true e)
    (near (t.Sign sign.CloseBracket) ∷ []) rest)
expression_puts names close (Length p at) l us rest d = seq d (mark d.first) (path_puts names false p _ _ d.second)
expression_puts names close (Grouped e at) l us rest d = grouped
    (seq d (mark d.first) (seq d.second (expression_puts names true e 0 _ _ d.second.first) (mark_any d.second.second)))
    (cat2 (token close (t.Sign sign.OpenParen) ∷ expression_tokens names true e) (near (t.Sign sign.CloseParen) ∷ [])
    rest)
expression_puts names close (Negated e at) l us rest d = seq d (mark d.first)
    (expression_puts names true e 5 _ _ d.second)
expression_puts names close (Minus e at) l us rest d = seq d (mark d.first)
    (expression_puts names true e 5 _ _ d.second)
expression_puts names close (Binary o a b) l us rest d = grouped
    (seq d.1 (expression_puts names close a (left_level o) _ _ d.1.first)
    (seq d.1.second (mark_any d.1.second.first)
    (expression_puts names false b (level o + 1) _ _ d.1.second.second)))
    (cat2 (expression_tokens names close a) (far (t.Sign (sign_of o)) ∷ expression_tokens names false b) rest)

-- ---- calls and right sides

pub whole_puts : (names : Spellings) (close : Bool) (e : Expression)
    → Puts names (whole_expression e) (expression_tokens names close e)
whole_puts names close e = expression_puts names close e 0

pub arguments_put : (names : Spellings) (args : List Expression)
    → Puts names (arguments args) (arguments_tokens names args)
arguments_put names args us rest d = grouped
    (seq d (mark_any d.first) (seq d.second
    (listed_put names whole_expression (expression_tokens names) true (whole_puts names) args _ _ d.second.first)
    (mark_any d.second.second)))
    (cat2 (near (t.Sign sign.OpenParen) ∷ with_commas (expression_tokens names) true args)
    (near (t.Sign sign.CloseParen) ∷ []) rest)

-- a receiver and a method's name
method_puts : (names : Spellings) (close : Bool) (on : Option Path) (x : NameAt) (us : Tokens) (rest : List TokenKind)
    → receiver on us → Shows names us (name_kind names x.name ∷ rest) (kinds (method_tokens names close on x) ++ rest)
method_puts names close None x us rest d = none d
method_puts names close (Some p) x us rest d = grouped
    (seq d (path_puts names close p _ _ d.first) (mark_any d.second))
    (cat2 (path_tokens names close p) (near (t.Sign sign.Dot) ∷ near (name_kind names x.name) ∷ []) rest)

pub call_puts : (names : Spellings) (close : Bool) (c : Invocation)
    → Puts names (call_written c) (call_tokens names close c)
call_puts names close c us rest d = grouped
    (seq d (method_puts names close c.on c.method _ _ d.first)
    (seq d.second (mark d.second.first)
    (seq d.second.second (groups_put names c.groups _ _ d.second.second.first)
    (arguments_put names c.args _ _ d.second.second.second))))
    (cat3 (method_tokens names close c.on c.method) (groups_tokens names c.groups) (arguments_tokens names c.args) rest)

pub right_puts : (names : Spellings) (r : RightSide) → Puts names (right_of_equals r) (right_tokens names r)
right_puts names (Value e) us rest d = whole_puts names false e us rest d
right_puts names (Taken p at) us rest d = seq d.1 (mark d.1.first) (path_puts names false p _ _ d.1.second)
right_puts names (Zeros e at) us rest d = grouped
    (seq d (mark d.first) (seq d.second (mark_any d.second.first) (seq d.second.second (mark_any d.second.second.first)
    (seq d.second.second.second (whole_puts names true e _ _ d.second.second.second.first)
    (mark_any d.second.second.second.second)))))
    (cat2 (far (t.Word word.New) ∷ far (t.Word word.Ints) ∷ near (t.Sign sign.OpenParen)
    ∷ expression_tokens names true e) (near (t.Sign sign.CloseParen) ∷ []) rest)
right_puts names (Made c gs args at) us rest d = grouped
    (seq d (mark d.first) (seq d.second (mark d.second.first)
    (seq d.second.second (groups_put names gs _ _ d.second.second.first)
    (arguments_put names args _ _ d.second.second.second))))
    (cat2 (far (t.Word word.New) ∷ far (name_kind names c.name) ∷ groups_tokens names gs)
    (arguments_tokens names args) rest)
right_puts names (Returned c) us rest d = call_puts names false c us rest d
