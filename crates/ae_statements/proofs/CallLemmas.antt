-- Arguments and calls.
use Rattle.std.proofs.Common.{◌≡◌, ℕ, ◌++◌, List, [], ◌∷◌, map, Bool, true, false, Option, Some, None, inl, inr, All}
use Rattle.std.proofs.Common.{refl, sym, ap, ◌∙◌, append_assoc, subst}
use Rattle.std.proofs.lemmas.List.{map-append}
use Rattle.std.proofs.lemmas.List.Elements.{All-nil, All-push, All-cons, All-head, All-tail}
use Rattle.ae_text.specs.declared.token.Keyword.TheVariants as word
use Rattle.ae_text.specs.declared.token.Sign.TheVariants as sign
use Rattle.ae_tree.specs.declared.lexeme.Lexeme.{Lexeme}
use Rattle.ae_tree.specs.declared.lexeme.Lexical.{Lexical}
use Rattle.ae_tree.specs.declared.lexeme.Lexical.TheVariants as tok
use Rattle.ae_tree.specs.declared.limits.Limit.{Limit}
use Rattle.ae_tree.specs.declared.tree.NameAt.{NameAt}
use Rattle.ae_tree.specs.declared.tree.Path.{Path}
use Rattle.ae_tree.specs.declared.tree.Expr.{Expr}
use Rattle.ae_tree.specs.Plain.{Expression, Number, Truth, Nothing, Read, Item, Length, Grouped, Negated, Minus}
use Rattle.ae_tree.specs.Plain.{Binary, Invocation}
use Rattle.ae_tree.specs.Shown as shown
use Rattle.ae_tree.specs.Grammar.{Tokens, Then, ◌⨾◌, one_token, whole_expression, expression_at, root, path, groups}
use Rattle.ae_tree.specs.Grammar.{arguments, one_by_one, further, comma_list}
use Rattle.ae_tree.specs.Limits.{KeepsDepth, AllKeepDepth}
use Rattle.ae_reading.specs.declared.fail.Fail.{Fail}
use Rattle.ae_reading.specs.Reads.{head, Always, Free, Is, Isnt, IsWithinAll, Took, Failed}
use Rattle.ae_statements.proofs.from_reading.ReadsLemmas.{Links, Both, Pair, Has, Along, NoneAt, took_as, failed_as}
use Rattle.ae_statements.proofs.from_reading.Parts.{Commas, Parted, commas_go_on, no_comma, commas_link}
use Rattle.ae_statements.proofs.from_reading.Runs.{Run, run_start, run_more, run_end, run_failed}
use Rattle.ae_statements.proofs.from_reading.Begins.{Opens, opens_mark, opens_first, opens_at, opens_one, opens_isnt}
use Rattle.ae_expressions.specs.Ends.{Ends}
use Rattle.ae_statements.specs.Productions.{with_semicolon, call_rest, KeepsCalled, but_last, last, receiver_of}
use Rattle.ae_statements.proofs.ShapeLemmas.{Lets, has_suf, has_pre, sign_ends}

-- ---- what an expression begins with

abbrev pub starts_word : Lexical → Bool
starts_word (tok.Word word.True) = true
starts_word (tok.Word word.False) = true
starts_word (tok.Word word.Null) = true
starts_word (tok.Word word.Len) = true
starts_word (tok.Word word.This) = true
starts_word (tok.Sign sign.OpenParen) = true
starts_word (tok.Sign sign.Not) = true
starts_word (tok.Sign sign.Minus) = true
starts_word (tok.Int n) = true
starts_word (tok.Name n) = true
starts_word k = false

-- a first token of a kind that begins an expression
pub record Starts (us r : Tokens) : Type 0 where
  pub token : Lexeme
  pub front : head (us ++ r) ≡ Some token
  pub can : starts_word token.kind ≡ true

starts_as : {k : Lexical} (us r : Tokens) → starts_word k ≡ true → Opens us r k → Starts us r
starts_as {k} us r can b = record { token = b.token; front = b.front; can = ap starts_word b.kind ∙ can }

starts_first : {p q : Tokens → Type 0} (us r : Tokens) (d : Then p q us) → Starts d.front (d.back ++ r) → Starts us r
starts_first us r d s = record {
  token = s.token;
  front = ap head (ap (λ l. l ++ r) d.parts ∙ append_assoc d.front d.back r) ∙ s.front;
  can =
      s.can;
}

starts_root : (x : NameAt) (us r : Tokens) → root x us → Starts us r
starts_root x us r (inl d) = starts_as us r refl (opens_one us r d)
starts_root x us r (inr d) = starts_as us r refl (opens_one us r d.1)

starts_path : (p : Path) (us r : Tokens) → path p us → Starts us r
starts_path p us r d = starts_first us r d (starts_root p.root d.front (d.back ++ r) d.first)

starts_truth : (b : Bool) (at : _) (us r : Tokens) (l : ℕ) → expression_at (Truth b at) l us → Starts us r
starts_truth true at us r l d = starts_as us r refl (opens_one us r d)
starts_truth false at us r l d = starts_as us r refl (opens_one us r d)

pub expression_starts : (e : Expression) (l : ℕ) (us r : Tokens) → expression_at e l us → Starts us r
expression_starts (Number n at) l us r d = starts_as us r refl (opens_one us r d)
expression_starts (Truth b at) l us r d = starts_truth b at us r l d
expression_starts (Nothing at) l us r d = starts_as us r refl (opens_one us r d)
expression_starts (Read p) l us r d = starts_path p us r d
expression_starts (Item p e) l us r d = starts_first us r d (starts_path p d.front (d.back ++ r) d.first)
expression_starts (Length p at) l us r d = starts_as us r refl (opens_at us r d)
expression_starts (Grouped e at) l us r d = starts_as us r refl (opens_at us r d)
expression_starts (Negated e at) l us r d = starts_as us r refl (opens_at us r d)
expression_starts (Minus e at) l us r d = starts_as us r refl (opens_at us r d)
expression_starts (Binary o a b) l us r d = starts_first us r d.1
    (expression_starts a _ d.1.front (d.1.back ++ r) d.1.first)

not_start : (t : Lexeme) (k : Lexical) → t.kind ≡ k → starts_word k ≡ false → starts_word t.kind ≡ true → ⊥
not_start t k e never can = let same : starts_word k ≡ true = sym (ap starts_word e) ∙ can in cc

-- no expression begins with such a token
pub no_whole : (k : Lexical) (ts : Tokens) → starts_word k ≡ false → Is k (head ts) → NoneAt whole_expression ts
no_whole k ts never is y us r d h =
    let s = expression_starts y 0 us r d in
    let P : Option Lexeme → Type 0 = Is k in
    not_start s.token k (subst P (sym h ∙ s.front) is) never s.can

-- ---- arguments

abbrev pub Closed : Option Lexeme → Type 0
Closed = Is (tok.Sign sign.CloseParen)

closed_ends : (o : Option Lexeme) → Closed o → Ends 0 o
closed_ends None i = absurd i
closed_ends (Some t) i = sign_ends sign.CloseParen refl t i

closed_stops : (o : Option Lexeme) → Closed o → Isnt (tok.Sign sign.Comma) o
closed_stops None i = absurd i
closed_stops (Some t) i = λ e. no_comma_closes (sym i ∙ e)
  where
    no_comma_closes : tok.Sign sign.CloseParen ≡ tok.Sign sign.Comma → ⊥
    no_comma_closes e = cc

pub commas : Commas (Ends 0) Closed
commas = record { comma = sign_ends sign.Comma refl; ends = closed_ends; stops = closed_stops }

all_at : {A : Type 0} (P : A → Type 0) (xs zs : List A) (z : A) → All P (xs ++ z ∷ zs) → P z
all_at P [] zs z all = All-head P z zs all
all_at P (y ∷ xs) zs z all = all_at P xs zs z (All-tail P y (xs ++ z ∷ zs) all)

pub none_within : IsWithinAll AllKeepDepth []
none_within l = All-nil (KeepsDepth l)

abbrev pub Arguments : Tokens → List Expression → Tokens → Type 0
Arguments ts es rest = Run (further whole_expression) AllKeepDepth Closed ts es rest

pub arguments_start : (ts : Tokens) (xs : List Expr) → xs ≡ [] → Arguments ts (map shown.expression xs) ts
arguments_start ts xs e = let P : List Expr → Type 0 = λ l. Arguments ts (map shown.expression l) ts in subst P
    (sym e) (run_start (further whole_expression) AllKeepDepth Closed ts none_within)

pub arguments_more : (ts rest rest' : Tokens) (xs ys : List Expr) (x : Expr) → Is (tok.Sign sign.Comma) (head rest)
    → ys ≡ xs ++ x ∷ [] →
    Arguments ts (map shown.expression xs) rest → Took (further whole_expression) KeepsDepth (Ends 0) rest
    (shown.expression x) rest' → Arguments ts (map shown.expression ys) rest'
arguments_more ts rest rest' xs ys x comma e t u =
    let P : List Expression → Type 0 = λ l. Arguments ts l rest' in
    subst P (sym (ap (λ (l : List Expr). map shown.expression l) e ∙ map-append shown.expression xs (x ∷ [])))
    (run_more (commas_link whole_expression commas) (commas_go_on rest commas comma)
    (λ l. All-push (KeepsDepth l) (map shown.expression xs) (shown.expression x) (t.within l) (u.within l)) t u)

pub arguments_failed : (ts rest : Tokens) (es : List Expression) (e : Fail) → Is (tok.Sign sign.Comma) (head rest) →
    Arguments ts es rest → Failed (further whole_expression) KeepsDepth (Ends 0) rest e
    → Failed (one_by_one (further whole_expression)) AllKeepDepth Closed ts e
arguments_failed ts rest es e comma t f =
    let within = t.within in
    failed_here (λ l z w. All-push (KeepsDepth l) es z (within l) w) f
  where
    failed_here : ((l : Limit) (z : Expression) → KeepsDepth l z → AllKeepDepth l (es ++ z ∷ []))
        → Failed (further whole_expression) KeepsDepth (Ends 0) rest e
        → Failed (one_by_one (further whole_expression)) AllKeepDepth Closed ts e
    failed_here fits g = run_failed (commas_link whole_expression commas) (commas_go_on rest commas comma) fits
        (λ l z zs v. all_at (KeepsDepth l) es zs z v) t g

pub arguments_end : (ts rest : Tokens) (es : List Expression) → (Is (tok.Sign sign.Comma) (head rest) → ⊥)
    → Arguments ts es rest → Took (one_by_one (further whole_expression)) AllKeepDepth Closed ts es rest
arguments_end ts rest es other t = run_end (no_comma whole_expression rest other) t

pub parted : Parted KeepsDepth (λ l x xs. AllKeepDepth l xs) AllKeepDepth
parted = record {
  to = λ l x xs w v. All-cons (KeepsDepth l) x xs w v;
  from =
      λ l x xs v. (All-head (KeepsDepth l) x xs v, All-tail (KeepsDepth l) x xs v);
}

pub has_listed : Has (comma_list whole_expression) AllKeepDepth
has_listed = record { tree = []; tokens = []; is = refl; known = tt; within = none_within }

pub closes : Lets (tok.Sign sign.CloseParen) Closed
closes t e = e

pub has_closed : Has (λ es. comma_list whole_expression es ⨾ one_token (tok.Sign sign.CloseParen)) AllKeepDepth
has_closed = has_suf (tok.Sign sign.CloseParen) (comma_list whole_expression) tt has_listed

pub has_arguments : Has arguments AllKeepDepth
has_arguments = has_pre (tok.Sign sign.OpenParen)
    (λ es. comma_list whole_expression es ⨾ one_token (tok.Sign sign.CloseParen)) tt has_closed

-- ---- calls

called_along : (ts : Tokens) → Along call_rest (Both groups (with_semicolon arguments)) KeepsCalled
    (Pair Free AllKeepDepth) ts (λ q. q)
called_along ts = record {
  intro = λ q us d. d;
  cases = λ y us r d h. (y, refl, d);
  to = λ q us d l v. v.1;
  from =
      λ q us d l v. (tt, v);
}

pub called_took : {F : _} (ts rest : Tokens) (q : List NameAt × List Expression)
    → Took (Both groups (with_semicolon arguments)) (Pair Free AllKeepDepth) F ts q rest
    → Took call_rest KeepsCalled F ts q rest
called_took ts rest q t = took_as call_rest (Both groups (with_semicolon arguments)) (λ q. q) (called_along ts) t

pub called_failed : {F : _} (ts : Tokens) (e : Fail)
    → Failed (Both groups (with_semicolon arguments)) (Pair Free AllKeepDepth) F ts e
    → Failed call_rest KeepsCalled F ts e
called_failed ts e f = failed_as call_rest (Both groups (with_semicolon arguments)) (λ q. q) (called_along ts) f

pub has_ended_arguments : Has (with_semicolon arguments) AllKeepDepth
has_ended_arguments = has_suf (tok.Sign sign.Semicolon) arguments tt has_arguments

paren_no_less : tok.Sign sign.OpenParen ≡ tok.Sign sign.Less → ⊥
paren_no_less e = cc

pub no_less : Links (with_semicolon arguments) Always (Isnt (tok.Sign sign.Less))
no_less y us r d f = opens_isnt us r (opens_first us r d (opens_mark d.front (d.back ++ r) d.first)) paren_no_less

pub last_snoc : (root x : NameAt) (xs : List NameAt) → last root (xs ++ x ∷ []) ≡ x
last_snoc root x [] = refl
last_snoc root x (y ∷ xs) = last_snoc y x xs

pub but_last_snoc : (y x : NameAt) (xs : List NameAt) → but_last y (xs ++ x ∷ []) ≡ y ∷ xs
but_last_snoc y x [] = refl
but_last_snoc y x (z ∷ xs) = ap (λ l. y ∷ l) (but_last_snoc z x xs)

pub receiver_snoc : (root x : NameAt) (xs : List NameAt) → receiver_of root (xs ++ x ∷ [])
    ≡ Some (record { root = root; steps = xs })
receiver_snoc root x [] = refl
receiver_snoc root x (y ∷ xs) = ap (λ l. Some (record { root = root; steps = l })) (but_last_snoc y x xs)

abbrev invocation_at : NameAt → List NameAt → List NameAt → List Expression → Invocation
invocation_at root steps gs es = record {
  on = receiver_of root steps;
  method = last root steps;
  groups = gs;
  args =
      es;
}

pub invoked_some : (root x : NameAt) (steps xs gs : List NameAt) (es : List Expression) → steps ≡ xs ++ x ∷ [] →
    record { on = Some (record { root = root; steps = xs }); method = x; groups = gs; args = es }
    ≡ invocation_at root steps gs es
invoked_some root x steps xs gs es e =
    ap (λ o. record { on = o; method = x; groups = gs; args = es }) (sym (receiver_snoc root x xs)) ∙
    ap (λ m. record { on = receiver_of root (xs ++ x ∷ []); method = m; groups = gs; args = es })
    (sym (last_snoc root x xs)) ∙
    ap (λ s. invocation_at root s gs es) (sym e)
