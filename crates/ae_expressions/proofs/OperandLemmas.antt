-- Operands, by their first token.
use Rattle.std.proofs.Common.{◌≡◌, ℕ, ◌+◌, ◌≤◌, ◌<◌, ◌++◌, [], ◌∷◌, length, Option, Some, None, refl, sym, ap, ◌∙◌}
use Rattle.std.proofs.Common.{append-nil, subst, arith, pos, true, false, inl, inr}
use Rattle.ae_text.specs.declared.refusal.Spot.{Spot}
use Rattle.ae_text.specs.declared.token.Keyword.{Keyword}
use Rattle.ae_text.specs.declared.token.Keyword.TheVariants as word
use Rattle.ae_text.specs.declared.token.Sign.{Sign}
use Rattle.ae_text.specs.declared.token.Sign.TheVariants as sign
use Rattle.ae_tree.specs.declared.lexeme.Lexeme.{Lexeme}
use Rattle.ae_tree.specs.declared.lexeme.Lexical.{Lexical}
use Rattle.ae_tree.specs.declared.lexeme.Lexical.TheVariants as tok
use Rattle.ae_tree.specs.declared.limits.Limit.{Limit}
use Rattle.ae_tree.specs.declared.limits.Limit.TheVariants.{Depth}
use Rattle.ae_tree.specs.declared.tree.Path.{Path}
use Rattle.ae_tree.specs.Plain.{Expression, Number, Truth, Nothing, Read, Item, Length, Grouped, Negated, Minus, Binary}
use Rattle.ae_tree.specs.Grammar.{Tokens, ◌⨾◌, a_sign, path}
use Rattle.ae_tree.specs.Limits.{marks, rank}
use Rattle.ae_tree.specs.Refused.{AreSpellable}
use Rattle.ae_reading.specs.declared.fail.Fail.{Fail}
use Rattle.ae_reading.specs.declared.fail.Why.TheVariants.{Unexpected, Over}
use Rattle.ae_reading.specs.Reads.{head, Always, Is, Isnt, Free, Took, Stopped, Failed, Larger, Token, TokenMark}
use Rattle.ae_expressions.proofs.from_reading.ReadsLemmas.{took_before, failed_before, over_here, Lang, Bound}
use Rattle.ae_expressions.proofs.from_reading.ReadsLemmas.{Follow, Both, Limits, Pair, Has, Links, Along, has_both}
use Rattle.ae_expressions.proofs.from_reading.ReadsLemmas.{has_mark, took_as, failed_as, failed_by, stopped_as}
use Rattle.ae_expressions.proofs.from_reading.ReadsLemmas.{stopped_here, stopped_second, stopped_first_with, first}
use Rattle.ae_expressions.proofs.from_reading.ReadsLemmas.{second, both, took_then, nowhere, at_once, free}
use Rattle.ae_expressions.proofs.from_reading.ReadsLemmas.{took_mark, failed_mark, io_name}
use Rattle.ae_expressions.proofs.from_reading.Begins.{Opens, is_isnt, of_kind, of_other, begins_mark, begins_both}
use Rattle.ae_expressions.proofs.from_reading.Begins.{opens_one, opens_at, opens_mark, opens_so}
use Rattle.ae_expressions.proofs.from_reading.Parts.{optional, left_out, took_optional, stopped_optional}
use Rattle.ae_expressions.proofs.from_reading.UniquePaths.{IsRoot, begins_path}
use Rattle.ae_expressions.specs.Ends.{Ends}
use Rattle.ae_expressions.specs.declared.starts.Mark.{Mark as Marked}
use Rattle.ae_expressions.specs.declared.starts.Mark.TheVariants as mark
use Rattle.ae_expressions.specs.declared.starts.Start.{Start}
use Rattle.ae_expressions.specs.declared.starts.Start.TheVariants as start
use Rattle.ae_expressions.specs.Productions.{AtMostMarks, AtMostInside, IsShortPath, IsClosing, Next, at_level}
use Rattle.ae_expressions.specs.Productions.{operand_start, mark_kind, literal, operand, enclosed, start_of}
use Rattle.ae_expressions.proofs.OperatorLemmas.{low_level, ends_closing}
use Rattle.ae_expressions.proofs.OptionLemmas.{begun, full, none_before}
use Rattle.ae_expressions.proofs.ChainLemmas.{has_at_level, zero_expression}

-- ---- the first token

-- a token with which operands of this start begin
abbrev pub Starts : Start → Follow
Starts s None = ⊥
Starts s (Some t) = start_of t.kind ≡ s

-- the start that the first token tells
starts_as : (s : Start) {k : Lexical} (us r : Tokens) → start_of k ≡ s → Opens us r k → Starts s (head (us ++ r))
starts_as s us r e b = let P : Option Lexeme → Type 0 = Starts s in subst P (sym b.front) (ap start_of b.kind ∙ e)

root_starts : (o : Option Lexeme) → IsRoot o → Starts start.Place o
root_starts None (inl i) = i
root_starts (Some t) (inl i) = ap start_of i.1
root_starts None (inr i) = i
root_starts (Some t) (inr i) = ap start_of i

path_first : (p : Path) (us r : Tokens) → path p us → Starts start.Place (head (us ++ r))
path_first p us r d = root_starts (head (us ++ r)) (begins_path p us r d)

starts : (y : Expression) (us r : Tokens) → at_level 5 y us → Starts (operand_start y) (head (us ++ r))
starts (Number n at) us r d = starts_as start.Literal us r refl (opens_one us r d)
starts (Truth true at) us r d = starts_as start.Literal us r refl (opens_one us r d)
starts (Truth false at) us r d = starts_as start.Literal us r refl (opens_one us r d)
starts (Nothing at) us r d = starts_as start.Literal us r refl (opens_one us r d)
starts (Read p) us r d = path_first p us r d
starts (Item p e) us r d = begins_both path (λ p e. a_sign sign.OpenBracket ⨾ at_level 0 e ⨾ a_sign sign.CloseBracket)
    (Starts start.Place) path_first (p, e) us r d
starts (Length p at) us r d = starts_as (start.Counted mark.Len) us r refl (opens_at us r d)
starts (Grouped a at) us r d = starts_as (start.Counted mark.Paren) us r refl (opens_at us r d)
starts (Negated a at) us r d = starts_as (start.Counted mark.Not) us r refl (opens_at us r d)
starts (Minus a at) us r d = starts_as (start.Counted mark.Minus) us r refl (opens_at us r d)
starts (Binary o a b) us r d = absurd (omega (arith, low_level o, d.0))

-- the form of an operand that begins with this token
form_is : (s : Start) (y : Expression) (us r ts rest : Tokens) (t : Lexeme) → start_of t.kind ≡ s → ts ≡ t ∷ rest
    → at_level 5 y us → head (us ++ r) ≡ head ts → operand_start y ≡ s
form_is s y us r ts rest t is e d h = let P : Option Lexeme
    → Type 0 = Starts (operand_start y) in sym (subst P (h ∙ ap head e) (starts y us r d)) ∙ is

operand_along : (s : Start) (W : Bound Expression) (ts rest : Tokens) (t : Lexeme) → start_of t.kind ≡ s
    → ts ≡ t ∷ rest → Along (at_level 5) (operand s) W W ts (λ y. y)
operand_along s W ts rest t is e =
    record {
      intro = λ y us d. d.1;
      cases = λ y us r d h. (y, refl, (form_is s y us r ts rest t is e d h, d));
      to =
          λ y us d l v. v;
      from = λ y us d l v. v;
    }

pub operand_took : (s : Start) (n : ℕ) (ts rest after : Tokens) (t : Lexeme) (x : Expression) → start_of t.kind ≡ s
    → ts ≡ t ∷ rest → Took (operand s) (AtMostMarks n) (Ends 5) ts x after
    → Took (at_level 5) (AtMostMarks n) (Ends 5) ts x after
operand_took s n ts rest after t x is e u = took_as (at_level 5) (operand s) (λ y. y)
    (operand_along s (AtMostMarks n) ts rest t is e) u

pub operand_failed : (s : Start) (n : ℕ) (ts rest : Tokens) (t : Lexeme) (e : Fail) → start_of t.kind ≡ s
    → ts ≡ t ∷ rest → Failed (operand s) (AtMostMarks n) (Ends 5) ts e
    → Failed (at_level 5) (AtMostMarks n) (Ends 5) ts e
operand_failed s n ts rest t e is whole f = failed_as (at_level 5) (operand s) (λ y. y)
    (operand_along s (AtMostMarks n) ts rest t is whole) f

-- no operand begins here
not_other : (y : Expression) (us : Tokens) → at_level 5 y us → operand_start y ≡ start.Other → ⊥
not_other (Number n at) us d e = let z : start.Literal ≡ start.Other = e in cc
not_other (Truth b at) us d e = let z : start.Literal ≡ start.Other = e in cc
not_other (Nothing at) us d e = let z : start.Literal ≡ start.Other = e in cc
not_other (Read p) us d e = let z : start.Place ≡ start.Other = e in cc
not_other (Item p a) us d e = let z : start.Place ≡ start.Other = e in cc
not_other (Length p at) us d e = let z : (start.Counted mark.Len) ≡ start.Other = e in cc
not_other (Grouped a at) us d e = let z : (start.Counted mark.Paren) ≡ start.Other = e in cc
not_other (Negated a at) us d e = let z : (start.Counted mark.Not) ≡ start.Other = e in cc
not_other (Minus a at) us d e = let z : (start.Counted mark.Minus) ≡ start.Other = e in cc
not_other (Binary o a b) us d e = omega (arith, low_level o, d.0)

pub operand_other : (n : ℕ) (ts rest : Tokens) (t : Lexeme) → start_of t.kind ≡ start.Other → ts ≡ t ∷ rest
    → Stopped (at_level 5) (AtMostMarks n) (Ends 5) ts Unexpected (length ts)
operand_other n ts rest t is e = stopped_here (has_at_level 5 n)
    (λ y us r d h. not_other y us d (form_is start.Other y us r ts rest t is e d h))

pub operand_end : (n : ℕ) (ts : Tokens) → ts ≡ [] → Stopped (at_level 5) (AtMostMarks n) (Ends 5) ts Unexpected
    (length ts)
operand_end n ts e = stopped_here (has_at_level 5 n) (λ y us r d h. let P : Option Lexeme
    → Type 0 = Starts (operand_start y) in subst P (h ∙ ap head e) (starts y us r d))

-- ---- literals

abbrev literal_of_word : Keyword → Spot → Option Expression
literal_of_word word.True at = Some (Truth true at)
literal_of_word word.False at = Some (Truth false at)
literal_of_word word.Null at = Some (Nothing at)
literal_of_word _ at = None

abbrev kind_literal : Lexical → Spot → Option Expression
kind_literal (tok.Int n) at = Some (Number n at)
kind_literal (tok.Word w) at = literal_of_word w at
kind_literal _ at = None

-- the literal that a token is
abbrev literal_at : Lexeme → Option Expression
literal_at t = kind_literal t.kind t.at

literal_one : (y : Expression) (us : Tokens) → literal y us → (t : Lexeme) × (us ≡ t ∷ []) × (literal_at t ≡ Some y)
literal_one (Number n at) us d = (record { kind = tok.Int n; at = at }, d.1, refl)
literal_one (Truth true at) us d = (record { kind = tok.Word word.True; at = at }, d.1, refl)
literal_one (Truth false at) us d = (record { kind = tok.Word word.False; at = at }, d.1, refl)
literal_one (Nothing at) us d = (record { kind = tok.Word word.Null; at = at }, d.1, refl)
literal_one (Read p) us d = let z : start.Place ≡ start.Literal = d.0 in cc
literal_one (Item p e) us d = let z : start.Place ≡ start.Literal = d.0 in cc
literal_one (Length p at) us d = let z : (start.Counted mark.Len) ≡ start.Literal = d.0 in cc
literal_one (Grouped e at) us d = let z : (start.Counted mark.Paren) ≡ start.Literal = d.0 in cc
literal_one (Negated e at) us d = let z : (start.Counted mark.Not) ≡ start.Literal = d.0 in cc
literal_one (Minus e at) us d = let z : (start.Counted mark.Minus) ≡ start.Literal = d.0 in cc
literal_one (Binary o a b) us d = let z : start.Other ≡ start.Literal = d.0 in cc

literal_known : (y : Expression) (t : Lexeme) → literal y (t ∷ []) → literal_at t ≡ Some y
literal_known y t d = let o = literal_one y (t ∷ []) d in let same : t ≡ o.0 =
    (let e : t ∷ [] ≡ o.0 ∷ [] = o.1 in cc) in ap literal_at same ∙ o.2

literal_not_end : (y : Expression) (t : Lexeme) → literal_at t ≡ Some y → t.kind ≡ tok.End → ⊥
literal_not_end y t d e = let no_way : None ≡ Some y = sym (ap (λ k. kind_literal k t.at) e) ∙ d in cc

literal_only : (x y : Expression) (t : Lexeme) (us r other : Tokens) → literal x (t ∷ []) → literal y us
    → us ++ r ≡ t ∷ other → (y ≡ x) × (r ≡ other)
literal_only x y t us r other dx dy e =
    let o = literal_one y us dy in
    let all : o.0 ∷ r ≡ t ∷ other = sym (ap (λ l. l ++ r) o.1) ∙ e in
    let same : o.0 ≡ t = cc in
    let trees : Some y ≡ Some x = sym o.2 ∙ ap literal_at same ∙ literal_known x t dx in
    (cc, cc)

pub took_literal : (ts rest : Tokens) (t : Lexeme) (x : Expression) → ts ≡ t ∷ rest → literal x (t ∷ [])
    → Took literal Free Always ts x rest
took_literal ts rest t x e d = record {
  taken = t ∷ [];
  whole = e;
  derives = d;
  within = λ l. tt;
  no_end = (literal_not_end x t (literal_known x t d), tt);
  only = λ y us r other dy w h f. literal_only x y t us r other d dy w;
}

has_literal : Has literal Free
has_literal = record {
  tree = zero_expression;
  tokens = at_once (tok.Int (pos 0));
  is = (refl, refl);
  known =
      (tt, tt);
  within = λ l. tt;
}

pub literal_end : (ts : Tokens) → ts ≡ [] → Stopped literal Free Always ts Unexpected (length ts)
literal_end ts e = stopped_here has_literal (λ y us r d h.
    let o = literal_one y us d in
    let no_way : Some o.0 ≡ None = sym (ap (λ l. head (l ++ r)) o.1) ∙ h ∙ ap head e in cc)

pub literal_other : (ts rest : Tokens) (t : Lexeme) → ts ≡ t ∷ rest → ((y : Expression) → literal y (t ∷ []) → ⊥)
    → Stopped literal Free Always ts Unexpected (length ts)
literal_other ts rest t e none = stopped_here has_literal (λ y us r d h.
    let o = literal_one y us d in
    let heads : Some o.0 ≡ Some t = sym (ap (λ l. head (l ++ r)) o.1) ∙ h ∙ ap head e in
    let same : o.0 ≡ t = cc in
    let P : Tokens → Type 0 = literal y in
    none y (subst P (o.1 ∙ ap (λ a. a ∷ []) same) d))

no_marks : (y : Expression) → operand_start y ≡ start.Literal → marks y ≡ 0
no_marks (Number n at) e = refl
no_marks (Truth b at) e = refl
no_marks (Nothing at) e = refl
no_marks (Read p) e = let z : start.Place ≡ start.Literal = e in cc
no_marks (Item p a) e = let z : start.Place ≡ start.Literal = e in cc
no_marks (Length p at) e = let z : (start.Counted mark.Len) ≡ start.Literal = e in cc
no_marks (Grouped a at) e = let z : (start.Counted mark.Paren) ≡ start.Literal = e in cc
no_marks (Negated a at) e = let z : (start.Counted mark.Not) ≡ start.Literal = e in cc
no_marks (Minus a at) e = let z : (start.Counted mark.Minus) ≡ start.Literal = e in cc
no_marks (Binary o a b) e = let z : start.Other ≡ start.Literal = e in cc

literal_along : (n : ℕ) (ts : Tokens) → Along literal literal (AtMostMarks n) Free ts (λ y. y)
literal_along n ts = record {
  intro = λ y us d. d;
  cases = λ y us r d h. (y, refl, d);
  to =
      λ y us d l v e. omega (arith, no_marks y d.0);
  from = λ y us d l v. tt;
}

pub literal_fits : (n : ℕ) (ts rest : Tokens) (x : Expression) → Took literal Free Always ts x rest
    → Took literal (AtMostMarks n) (Ends 5) ts x rest
literal_fits n ts rest x t = took_before (λ o f. tt) (took_as literal literal (λ y. y) (literal_along n ts) t)

pub literal_failed : (n : ℕ) (ts : Tokens) (e : Fail) → Failed literal Free Always ts e
    → Failed literal (AtMostMarks n) (Ends 5) ts e
literal_failed n ts e f = failed_before (λ o f. tt) (failed_as literal literal (λ y. y) (literal_along n ts) f)

-- ---- what may follow

-- what may follow an operand is no `.`
no_dot : (o : Option Lexeme) → Ends 5 o → Isnt (tok.Sign sign.Dot) o
no_dot None e = tt
no_dot (Some t) e = e.1

no_bracket : (o : Option Lexeme) → Ends 5 o → Isnt (tok.Sign sign.OpenBracket) o
no_bracket None e = tt
no_bracket (Some t) e = e.2

-- ---- the length of an array

abbrev array : Lang (Spot × Path)
array = Both (Token (tok.Word word.Len)) path

abbrev pub len_operand : Lang Expression
len_operand = operand (start.Counted mark.Len)

abbrev length_of : Spot × Path → Expression
length_of q = Length q.1 q.0

length_cases : (y : Expression) (us : Tokens) → len_operand y us → (q : Spot × Path) × (y ≡ length_of q) × array q us
length_cases (Number n at) us d = let z : start.Literal ≡ (start.Counted mark.Len) = d.0 in cc
length_cases (Truth b at) us d = let z : start.Literal ≡ (start.Counted mark.Len) = d.0 in cc
length_cases (Nothing at) us d = let z : start.Literal ≡ (start.Counted mark.Len) = d.0 in cc
length_cases (Read p) us d = let z : start.Place ≡ (start.Counted mark.Len) = d.0 in cc
length_cases (Item p a) us d = let z : start.Place ≡ (start.Counted mark.Len) = d.0 in cc
length_cases (Length p at) us d = ((at, p), refl, d.1)
length_cases (Grouped a at) us d = let z : (start.Counted mark.Paren) ≡ (start.Counted mark.Len) = d.0 in cc
length_cases (Negated a at) us d = let z : (start.Counted mark.Not) ≡ (start.Counted mark.Len) = d.0 in cc
length_cases (Minus a at) us d = let z : (start.Counted mark.Minus) ≡ (start.Counted mark.Len) = d.0 in cc
length_cases (Binary o a b) us d = let z : start.Other ≡ (start.Counted mark.Len) = d.0 in cc

length_along : (m : ℕ) (ts : Tokens)
    → Along len_operand array (AtMostMarks (m + 1)) (Pair Free (IsShortPath m)) ts length_of
length_along m ts = record {
  intro = λ q us d. (refl, d);
  cases = λ y us r d h. length_cases y us d;
  to = λ q us d l v e. omega (arith, v.1 e);
  from = λ q us d l v. (tt, λ e. omega (arith, v e));
}

has_path : (m : ℕ) → Has path (IsShortPath m)
has_path m = record {
  tree = record { root = io_name; steps = [] };
  tokens = at_once (tok.Name 0);
  is = record { front = at_once (tok.Name 0); back = []; parts = refl; first = inl refl; second = refl };
  known = (refl, tt);
  within = λ l e. omega arith;
}

pub length_took : (n m : ℕ) (ts middle rest : Tokens) (at : Spot) (p : Path) → m + 1 ≡ n
    → Took (Token (tok.Word word.Len)) Free Always ts at middle
    → Took path (IsShortPath m) (Isnt (tok.Sign sign.Dot)) middle p rest
    → Took len_operand (AtMostMarks n) (Ends 5) ts (Length p at) rest
length_took n m ts middle rest at p e t u =
    let P : ℕ → Type 0 = λ k. Took len_operand (AtMostMarks k) (Ends 5) ts (Length p at) rest in
    subst P e (took_as len_operand array length_of (length_along m ts)
    (both (free path (Ends 5)) t (took_before no_dot u)))

pub length_failed_word : (n m : ℕ) (ts : Tokens) (e : Fail) → m + 1 ≡ n
    → Failed (Token (tok.Word word.Len)) Free Always ts e → Failed len_operand (AtMostMarks n) (Ends 5) ts e
length_failed_word n m ts e same f =
    let P : ℕ → Type 0 = λ k. Failed len_operand (AtMostMarks k) (Ends 5) ts e in
    subst P same (failed_as len_operand array length_of (length_along m ts) (first (free path (Ends 5)) (has_path m) f))

pub length_failed_path : (n m : ℕ) (ts middle : Tokens) (at : Spot) (e : Fail) → m + 1 ≡ n
    → Took (Token (tok.Word word.Len)) Free Always ts at middle
    → Failed path (IsShortPath m) (Isnt (tok.Sign sign.Dot)) middle e
    → Failed len_operand (AtMostMarks n) (Ends 5) ts e
length_failed_path n m ts middle at e same t f =
    let P : ℕ → Type 0 = λ k. Failed len_operand (AtMostMarks k) (Ends 5) ts e in
    subst P same (failed_as len_operand array length_of (length_along m ts)
    (second (free path (Ends 5)) t (failed_before no_dot f)))

-- ---- brackets

abbrev closing_parts : Sign → Lang (Expression × Unit {0})
closing_parts h = Both (at_level 0) (TokenMark (tok.Sign h))

abbrev bracketed : Sign → Sign → Lang (Spot × (Expression × Unit {0}))
bracketed g h = Both (Token (tok.Sign g)) (closing_parts h)

abbrev Bracketed : ℕ → Bound (Spot × (Expression × Unit {0}))
Bracketed n = Pair Free (Pair (AtMostMarks n) Free)

abbrev inside : Spot × (Expression × Unit {0}) → Spot × Expression
inside q = (q.0, q.1.0)

enclosed_along : (g h : Sign) (n : ℕ) (ts : Tokens) → Along (enclosed g h) (bracketed g h) (AtMostInside n)
    (Bracketed n) ts inside
enclosed_along g h n ts = record {
  intro = λ q us d. d;
  cases = λ y us r d e. ((y.0, (y.1, tt)), refl, d);
  to = λ q us d l v. v.1.0;
  from = λ q us d l v. (tt, (v, tt));
}

closing_links : (h : Sign) → IsClosing h → Links (TokenMark (tok.Sign h)) Always (Ends 0)
closing_links h c y us r d f = of_kind (tok.Sign h) (Ends 0) (λ at. ends_closing 0 h at c) (head (us ++ r))
    (begins_mark (tok.Sign h) y us r d)

has_closing : (h : Sign) (n : ℕ) → Has (closing_parts h) (Pair (AtMostMarks n) Free)
has_closing h n = has_both (has_at_level 0 n) (has_mark (tok.Sign h) tt)

pub enclosed_took : (g h : Sign) (n : ℕ) (ts middle later rest : Tokens) (at end : Spot) (x : Expression)
    → IsClosing h → Took (Token (tok.Sign g)) Free Always ts at middle
    → Took (at_level 0) (AtMostMarks n) (Ends 0) middle x later →
    Took (Token (tok.Sign h)) Free Always later end rest → Took (enclosed g h) (AtMostInside n) Always ts (at, x) rest
enclosed_took g h n ts middle later rest at end x c t u v =
    took_as (enclosed g h) (bracketed g h) inside (enclosed_along g h n ts)
    (both (free (closing_parts h) Always) t (both (closing_links h c) u (took_mark v)))

pub enclosed_failed_open : (g h : Sign) (n : ℕ) (ts : Tokens) (e : Fail)
    → Failed (Token (tok.Sign g)) Free Always ts e → Failed (enclosed g h) (AtMostInside n) Always ts e
enclosed_failed_open g h n ts e f = failed_as (enclosed g h) (bracketed g h) inside (enclosed_along g h n ts)
    (first (free (closing_parts h) Always) (has_closing h n) f)

pub enclosed_failed_inner : (g h : Sign) (n : ℕ) (ts middle : Tokens) (at : Spot) (e : Fail) → IsClosing h
    → Took (Token (tok.Sign g)) Free Always ts at middle → Failed (at_level 0) (AtMostMarks n) (Ends 0) middle e →
    Failed (enclosed g h) (AtMostInside n) Always ts e
enclosed_failed_inner g h n ts middle at e c t f =
    failed_as (enclosed g h) (bracketed g h) inside (enclosed_along g h n ts)
    (second (free (closing_parts h) Always) t (first (closing_links h c) (has_mark (tok.Sign h) tt) f))

pub enclosed_failed_close : (g h : Sign) (n : ℕ) (ts middle later : Tokens) (at : Spot) (x : Expression) (e : Fail)
    → IsClosing h → Took (Token (tok.Sign g)) Free Always ts at middle
    → Took (at_level 0) (AtMostMarks n) (Ends 0) middle x later →
    Failed (Token (tok.Sign h)) Free Always later e → Failed (enclosed g h) (AtMostInside n) Always ts e
enclosed_failed_close g h n ts middle later at x e c t u f =
    failed_as (enclosed g h) (bracketed g h) inside (enclosed_along g h n ts)
    (second (free (closing_parts h) Always) t (second (closing_links h c) u (failed_mark f)))

-- ---- parentheses

abbrev pub in_parentheses : Lang (Spot × Expression)
in_parentheses = enclosed sign.OpenParen sign.CloseParen

abbrev pub paren_operand : Lang Expression
paren_operand = operand (start.Counted mark.Paren)

abbrev grouped_of : Spot × Expression → Expression
grouped_of q = Grouped q.1 q.0

grouped_cases : (y : Expression) (us : Tokens) → paren_operand y us → (q : Spot × Expression) × (y ≡ grouped_of q)
    × in_parentheses q us
grouped_cases (Number n at) us d = let z : start.Literal ≡ (start.Counted mark.Paren) = d.0 in cc
grouped_cases (Truth b at) us d = let z : start.Literal ≡ (start.Counted mark.Paren) = d.0 in cc
grouped_cases (Nothing at) us d = let z : start.Literal ≡ (start.Counted mark.Paren) = d.0 in cc
grouped_cases (Read p) us d = let z : start.Place ≡ (start.Counted mark.Paren) = d.0 in cc
grouped_cases (Item p a) us d = let z : start.Place ≡ (start.Counted mark.Paren) = d.0 in cc
grouped_cases (Length p at) us d = let z : (start.Counted mark.Len) ≡ (start.Counted mark.Paren) = d.0 in cc
grouped_cases (Grouped a at) us d = ((at, a), refl, d.1)
grouped_cases (Negated a at) us d = let z : (start.Counted mark.Not) ≡ (start.Counted mark.Paren) = d.0 in cc
grouped_cases (Minus a at) us d = let z : (start.Counted mark.Minus) ≡ (start.Counted mark.Paren) = d.0 in cc
grouped_cases (Binary o a b) us d = let z : start.Other ≡ (start.Counted mark.Paren) = d.0 in cc

grouped_along : (m : ℕ) (ts : Tokens) → Along paren_operand in_parentheses (AtMostMarks (m + 1))
    (AtMostInside m) ts grouped_of
grouped_along m ts = record {
  intro = λ q us d. (refl, d);
  cases = λ y us r d h. grouped_cases y us d;
  to = λ q us d l v e. omega (arith, v e);
  from = λ q us d l v e. omega (arith, v e);
}

pub grouped_took : (n m : ℕ) (ts rest : Tokens) (q : Spot × Expression) → m + 1 ≡ n
    → Took in_parentheses (AtMostInside m) Always ts q rest
    → Took paren_operand (AtMostMarks n) (Ends 5) ts (Grouped q.1 q.0) rest
grouped_took n m ts rest q e t =
    let P : ℕ → Type 0 = λ k. Took paren_operand (AtMostMarks k) (Ends 5) ts (Grouped q.1 q.0) rest in
    subst P e (took_before (λ o f. tt) (took_as paren_operand in_parentheses grouped_of (grouped_along m ts) t))

pub grouped_failed : (n m : ℕ) (ts : Tokens) (e : Fail) → m + 1 ≡ n
    → Failed in_parentheses (AtMostInside m) Always ts e → Failed paren_operand (AtMostMarks n) (Ends 5) ts e
grouped_failed n m ts e same f =
    let P : ℕ → Type 0 = λ k. Failed paren_operand (AtMostMarks k) (Ends 5) ts e in
    subst P same (failed_before (λ o f. tt) (failed_as paren_operand in_parentheses grouped_of (grouped_along m ts) f))

-- ---- prefixes

-- a form that is a sign before an operand
abbrev prefixed : Sign → Lang (Spot × Expression)
prefixed g = Both (Token (tok.Sign g)) (at_level 5)

abbrev pub not_operand : Lang Expression
not_operand = operand (start.Counted mark.Not)

abbrev pub minus_operand : Lang Expression
minus_operand = operand (start.Counted mark.Minus)

abbrev negated_of : Spot × Expression → Expression
negated_of q = Negated q.1 q.0

abbrev minus_of : Spot × Expression → Expression
minus_of q = Minus q.1 q.0

negated_cases : (y : Expression) (us : Tokens) → not_operand y us → (q : Spot × Expression) × (y ≡ negated_of q)
    × prefixed sign.Not q us
negated_cases (Number n at) us d = let z : start.Literal ≡ (start.Counted mark.Not) = d.0 in cc
negated_cases (Truth b at) us d = let z : start.Literal ≡ (start.Counted mark.Not) = d.0 in cc
negated_cases (Nothing at) us d = let z : start.Literal ≡ (start.Counted mark.Not) = d.0 in cc
negated_cases (Read p) us d = let z : start.Place ≡ (start.Counted mark.Not) = d.0 in cc
negated_cases (Item p a) us d = let z : start.Place ≡ (start.Counted mark.Not) = d.0 in cc
negated_cases (Length p at) us d = let z : (start.Counted mark.Len) ≡ (start.Counted mark.Not) = d.0 in cc
negated_cases (Grouped a at) us d = let z : (start.Counted mark.Paren) ≡ (start.Counted mark.Not) = d.0 in cc
negated_cases (Negated a at) us d = ((at, a), refl, d.1)
negated_cases (Minus a at) us d = let z : (start.Counted mark.Minus) ≡ (start.Counted mark.Not) = d.0 in cc
negated_cases (Binary o a b) us d = let z : start.Other ≡ (start.Counted mark.Not) = d.0 in cc

minus_cases : (y : Expression) (us : Tokens) → minus_operand y us → (q : Spot × Expression) × (y ≡ minus_of q)
    × prefixed sign.Minus q us
minus_cases (Number n at) us d = let z : start.Literal ≡ (start.Counted mark.Minus) = d.0 in cc
minus_cases (Truth b at) us d = let z : start.Literal ≡ (start.Counted mark.Minus) = d.0 in cc
minus_cases (Nothing at) us d = let z : start.Literal ≡ (start.Counted mark.Minus) = d.0 in cc
minus_cases (Read p) us d = let z : start.Place ≡ (start.Counted mark.Minus) = d.0 in cc
minus_cases (Item p a) us d = let z : start.Place ≡ (start.Counted mark.Minus) = d.0 in cc
minus_cases (Length p at) us d = let z : (start.Counted mark.Len) ≡ (start.Counted mark.Minus) = d.0 in cc
minus_cases (Grouped a at) us d = let z : (start.Counted mark.Paren) ≡ (start.Counted mark.Minus) = d.0 in cc
minus_cases (Negated a at) us d = let z : (start.Counted mark.Not) ≡ (start.Counted mark.Minus) = d.0 in cc
minus_cases (Minus a at) us d = ((at, a), refl, d.1)
minus_cases (Binary o a b) us d = let z : start.Other ≡ (start.Counted mark.Minus) = d.0 in cc

negated_along : (m : ℕ) (ts : Tokens) → Along not_operand (prefixed sign.Not) (AtMostMarks (m + 1))
    (Pair Free (AtMostMarks m)) ts negated_of
negated_along m ts = record {
  intro = λ q us d. (refl, d);
  cases = λ y us r d h. negated_cases y us d;
  to = λ q us d l v e. omega (arith, v.1 e);
  from = λ q us d l v. (tt, λ e. omega (arith, v e));
}

minus_along : (m : ℕ) (ts : Tokens) → Along minus_operand (prefixed sign.Minus) (AtMostMarks (m + 1))
    (Pair Free (AtMostMarks m)) ts minus_of
minus_along m ts = record {
  intro = λ q us d. (refl, d);
  cases = λ y us r d h. minus_cases y us d;
  to = λ q us d l v e. omega (arith, v.1 e);
  from = λ q us d l v. (tt, λ e. omega (arith, v e));
}

-- along any form that is a sign before an operand
prefixed_took : (D : Lang Expression) (g : Sign) (n m : ℕ) (build : Spot × Expression → Expression)
    (ts middle rest : Tokens) (at : Spot) (x : Expression) → m + 1 ≡ n →
    Along D (prefixed g) (AtMostMarks (m + 1)) (Pair Free (AtMostMarks m)) ts build
    → Took (Token (tok.Sign g)) Free Always ts at middle
    → Took (at_level 5) (AtMostMarks m) (Ends 5) middle x rest
    → Took D (AtMostMarks n) (Ends 5) ts (build (at, x)) rest
prefixed_took D g n m build ts middle rest at x e a t u =
    let P : ℕ → Type 0 = λ k. Took D (AtMostMarks k) (Ends 5) ts (build (at, x)) rest in
    subst P e (took_as D (prefixed g) build a (both (free (at_level 5) (Ends 5)) t u))

prefixed_failed_sign : (D : Lang Expression) (g : Sign) (n m : ℕ) (build : Spot × Expression → Expression)
    (ts : Tokens) (e : Fail) → m + 1 ≡ n →
    Along D (prefixed g) (AtMostMarks (m + 1)) (Pair Free (AtMostMarks m)) ts build
    → Failed (Token (tok.Sign g)) Free Always ts e → Failed D (AtMostMarks n) (Ends 5) ts e
prefixed_failed_sign D g n m build ts e same a f =
    let P : ℕ → Type 0 = λ k. Failed D (AtMostMarks k) (Ends 5) ts e in
    subst P same (failed_as D (prefixed g) build a (first (free (at_level 5) (Ends 5)) (has_at_level 5 m) f))

prefixed_failed_operand : (D : Lang Expression) (g : Sign) (n m : ℕ) (build : Spot × Expression → Expression)
    (ts middle : Tokens) (at : Spot) (e : Fail) → m + 1 ≡ n →
    Along D (prefixed g) (AtMostMarks (m + 1)) (Pair Free (AtMostMarks m)) ts build
    → Took (Token (tok.Sign g)) Free Always ts at middle → Failed (at_level 5) (AtMostMarks m) (Ends 5) middle e
    → Failed D (AtMostMarks n) (Ends 5) ts e
prefixed_failed_operand D g n m build ts middle at e same a t f =
    let P : ℕ → Type 0 = λ k. Failed D (AtMostMarks k) (Ends 5) ts e in
    subst P same (failed_as D (prefixed g) build a (second (free (at_level 5) (Ends 5)) t f))

pub negated_took : (n m : ℕ) (ts middle rest : Tokens) (at : Spot) (x : Expression) → m + 1 ≡ n
    → Took (Token (tok.Sign sign.Not)) Free Always ts at middle
    → Took (at_level 5) (AtMostMarks m) (Ends 5) middle x rest
    → Took not_operand (AtMostMarks n) (Ends 5) ts (Negated x at) rest
negated_took n m ts middle rest at x e t u = prefixed_took not_operand sign.Not n m negated_of ts middle rest at x e
    (negated_along m ts) t u

pub negated_failed_sign : (n m : ℕ) (ts : Tokens) (e : Fail) → m + 1 ≡ n
    → Failed (Token (tok.Sign sign.Not)) Free Always ts e → Failed not_operand (AtMostMarks n) (Ends 5) ts e
negated_failed_sign n m ts e same f = prefixed_failed_sign not_operand sign.Not n m negated_of ts e same
    (negated_along m ts) f

pub negated_failed_operand : (n m : ℕ) (ts middle : Tokens) (at : Spot) (e : Fail) → m + 1 ≡ n
    → Took (Token (tok.Sign sign.Not)) Free Always ts at middle
    → Failed (at_level 5) (AtMostMarks m) (Ends 5) middle e → Failed not_operand (AtMostMarks n) (Ends 5) ts e
negated_failed_operand n m ts middle at e same t f = prefixed_failed_operand not_operand sign.Not n m negated_of ts
    middle at e same (negated_along m ts) t f

pub minus_took : (n m : ℕ) (ts middle rest : Tokens) (at : Spot) (x : Expression) → m + 1 ≡ n
    → Took (Token (tok.Sign sign.Minus)) Free Always ts at middle
    → Took (at_level 5) (AtMostMarks m) (Ends 5) middle x rest
    → Took minus_operand (AtMostMarks n) (Ends 5) ts (Minus x at) rest
minus_took n m ts middle rest at x e t u = prefixed_took minus_operand sign.Minus n m minus_of ts middle rest at x e
    (minus_along m ts) t u

pub minus_failed_sign : (n m : ℕ) (ts : Tokens) (e : Fail) → m + 1 ≡ n
    → Failed (Token (tok.Sign sign.Minus)) Free Always ts e → Failed minus_operand (AtMostMarks n) (Ends 5) ts e
minus_failed_sign n m ts e same f = prefixed_failed_sign minus_operand sign.Minus n m minus_of ts e same
    (minus_along m ts) f

pub minus_failed_operand : (n m : ℕ) (ts middle : Tokens) (at : Spot) (e : Fail) → m + 1 ≡ n
    → Took (Token (tok.Sign sign.Minus)) Free Always ts at middle
    → Failed (at_level 5) (AtMostMarks m) (Ends 5) middle e → Failed minus_operand (AtMostMarks n) (Ends 5) ts e
minus_failed_operand n m ts middle at e same t f = prefixed_failed_operand minus_operand sign.Minus n m minus_of ts
    middle at e same (minus_along m ts) t f

-- ---- paths, and an index behind them

abbrev index : Lang Expression
index e = a_sign sign.OpenBracket ⨾ at_level 0 e ⨾ a_sign sign.CloseBracket

abbrev pub in_brackets : Lang (Spot × Expression)
in_brackets = enclosed sign.OpenBracket sign.CloseBracket

abbrev placed : Path → Option Expression → Expression
placed p None = Read p
placed p (Some e) = Item p e

abbrev PlacedAtMost : ℕ → Limit → Path → Option Expression → Type 0
PlacedAtMost n l p o = AtMostMarks n l (placed p o)

abbrev place_parts : Lang (Path × Option Expression)
place_parts = Both path (optional index)

abbrev pub place_operand : Lang Expression
place_operand = operand start.Place

abbrev place_of : Path × Option Expression → Expression
place_of q = placed q.0 q.1

place_is : (p : Path) (o : Option Expression) (us : Tokens) → place_parts (p, o) us → place_operand (placed p o) us
place_is p None us d = (
  refl,
  (let P : Tokens
      → Type 0 = path p in subst P (sym (append-nil d.front) ∙ ap (λ l. d.front ++ l) (sym d.second) ∙ sym d.parts)
      d.first),
)
place_is p (Some e) us d = (refl, d)

place_cases : (y : Expression) (us : Tokens) → place_operand y us → (q : Path × Option Expression) × (y ≡ place_of q)
    × place_parts q us
place_cases (Number n at) us d = let z : start.Literal ≡ start.Place = d.0 in cc
place_cases (Truth b at) us d = let z : start.Literal ≡ start.Place = d.0 in cc
place_cases (Nothing at) us d = let z : start.Literal ≡ start.Place = d.0 in cc
place_cases (Read p) us d = (
  (p, None),
  refl,
  record { front = us; back = []; parts = sym (append-nil us); first = d.1; second = refl },
)
place_cases (Item p a) us d = ((p, Some a), refl, d.1)
place_cases (Length p at) us d = let z : (start.Counted mark.Len) ≡ start.Place = d.0 in cc
place_cases (Grouped a at) us d = let z : (start.Counted mark.Paren) ≡ start.Place = d.0 in cc
place_cases (Negated a at) us d = let z : (start.Counted mark.Not) ≡ start.Place = d.0 in cc
place_cases (Minus a at) us d = let z : (start.Counted mark.Minus) ≡ start.Place = d.0 in cc
place_cases (Binary o a b) us d = let z : start.Other ≡ start.Place = d.0 in cc

place_more : (p : Path) (o : Option Expression) → length p.steps ≤ marks (placed p o)
place_more p None = omega arith
place_more p (Some e) = omega arith

place_along : (n : ℕ) (ts : Tokens)
    → Along place_operand place_parts (AtMostMarks n) (Limits (IsShortPath n) (PlacedAtMost n)) ts place_of
place_along n ts = record {
  intro = λ q us d. place_is q.0 q.1 us d;
  cases = λ y us r d h. place_cases y us d;
  to = λ q us d l v. v.1;
  from = λ q us d l v. ((λ e. omega (arith, place_more q.0 q.1, v e)), v);
}

bracket_first : (y : Expression) (us r : Tokens) → index y us → Is (tok.Sign sign.OpenBracket) (head (us ++ r))
bracket_first y us r d = opens_so us r (opens_mark us r d)

place_links : Links (optional index) (Ends 5) (Isnt (tok.Sign sign.Dot))
place_links None us r d f = let P : Tokens → Type 0 = λ v. Isnt (tok.Sign sign.Dot) (head (v ++ r)) in subst P (sym d)
    (no_dot (head r) f)
place_links (Some e) us r d f = of_other (tok.Sign sign.OpenBracket) (tok.Sign sign.Dot) (λ e. cc) (head (us ++ r))
    (bracket_first e us r d)

abbrev PathTook : ℕ → Tokens → Path → Tokens → Type 0
PathTook n ts p rest = Took path (IsShortPath n) (Isnt (tok.Sign sign.Dot)) ts p rest

pub place_failed_path : (n : ℕ) (ts : Tokens) (e : Fail) → Failed path (IsShortPath n) (Isnt (tok.Sign sign.Dot)) ts e
    → Failed place_operand (AtMostMarks n) (Ends 5) ts e
place_failed_path n ts e f = failed_as place_operand place_parts place_of (place_along n ts)
    (failed_by (λ why left s. stopped_first_with (PlacedAtMost n) place_links None [] refl tt (λ l x w. w) s) f)

pub place_alone : (n : ℕ) (ts rest : Tokens) (p : Path) → PathTook n ts p rest
    → (Is (tok.Sign sign.OpenBracket) (head rest) → ⊥) → Took place_operand (AtMostMarks n) (Ends 5) ts (Read p) rest
place_alone n ts rest p t none = took_as place_operand place_parts place_of (place_along n ts)
    (took_then (PlacedAtMost n) place_links t
    (left_out (λ y us r d h. none (let P : Option Lexeme → Type 0 = Is (tok.Sign sign.OpenBracket) in subst P h
    (bracket_first y us r d))) t.within))

bracket_goes_on : (W : Bound Expression) → ((m : Limit) → rank m < 1 → W m zero_expression) → (rest : Tokens)
    → Is (tok.Sign sign.OpenBracket) (head rest) → Larger Depth index W [] rest
bracket_goes_on W others rest i =
    let b = begun (tok.Sign sign.OpenBracket) rest i in
    let t : Lexeme = record { kind = tok.Sign sign.OpenBracket; at = b.0.at } in
    let token_is : b.0 ≡ t = ap (λ k. record { kind = k; at = b.0.at }) b.3 in
    let zero : Tokens = at_once (tok.Int (pos 0)) in
    let close : Tokens = at_once (tok.Sign sign.CloseBracket) in
    let P : Lexeme → Type 0 = λ t. index zero_expression (t ∷ (zero ++ close)) in
    let one_more : P t = record {
      front = t ∷ [];
      back = zero ++ close;
      parts = refl;
      first =
          (b.0.at, refl);
      second = record {
        front = zero;
        back = close;
        parts = refl;
        first = refl;
        second =
            (nowhere, refl);
      };
    } in
    record {
      next = b.0;
      later = b.1;
      rest_is = b.2;
      tree = zero_expression;
      after = zero ++ close;
      known =
          (tt, (tt, tt));
      goes_on = subst P (sym token_is) one_more;
      passes = tt;
      others = others;
    }

-- an index is one token too many
pub place_over : (n : ℕ) (ts rest : Tokens) (p : Path) → PathTook n ts p rest
    → Is (tok.Sign sign.OpenBracket) (head rest) → n ≤ length p.steps
    → Stopped place_operand (AtMostMarks n) (Ends 5) ts (Over Depth) (length rest)
place_over n ts rest p t i many = stopped_as place_operand place_parts place_of (place_along n ts)
    (stopped_second (PlacedAtMost n) place_links t
    (full {V = λ l. PlacedAtMost n l p} (Over Depth)
    (λ f. is_isnt (tok.Sign sign.OpenBracket) (head rest) i (no_bracket (head rest) f))
    (λ z us r d h under. omega (arith, many, under refl))
    (bracket_goes_on (λ l z. PlacedAtMost n l p (Some z)) (λ m k e. none_before m k e) rest i) t.within))

index_along : (m : ℕ) (ts : Tokens) → Along index in_brackets (AtMostMarks m) (AtMostInside m) ts (λ q. q.1)
index_along m ts = record {
  intro = λ q us d. record {
    front = d.front;
    back = d.back;
    parts = d.parts;
    first =
        (q.0, d.first);
    second = d.second;
  };
  cases = λ y us r d h. (
    (d.first.0, y),
    refl,
    record { front = d.front; back = d.back; parts = d.parts; first = d.first.1; second = d.second },
  );
  to = λ q us d l v. v;
  from = λ q us d l v. v;
}

index_fits : (n m : ℕ) (p : Path) (z : Expression) → m + length p.steps + 1 ≡ n → marks z ≤ m → marks (Item p z) ≤ n
index_fits n m p z all w = omega (arith, w, all)

index_back : (n m : ℕ) (p : Path) (z : Expression) → m + length p.steps + 1 ≡ n → marks (Item p z) ≤ n → marks z ≤ m
index_back n m p z all w = omega (arith, w, all)

pub place_failed_index : (n m : ℕ) (ts rest : Tokens) (p : Path) (e : Fail) → PathTook n ts p rest
    → Is (tok.Sign sign.OpenBracket) (head rest) → m + length p.steps + 1 ≡ n
    → Failed in_brackets (AtMostInside m) Always rest e → Failed place_operand (AtMostMarks n) (Ends 5) ts e
place_failed_index n m ts rest p e t i all f = failed_as place_operand place_parts place_of (place_along n ts)
    (failed_by (λ why left s. stopped_second (PlacedAtMost n) place_links t
    (stopped_optional {V = λ l. PlacedAtMost n l p} {W = AtMostMarks m}
    (λ g. is_isnt (tok.Sign sign.OpenBracket) (head rest) i (no_bracket (head rest) g)) (λ o g. tt)
    (λ l z w q. index_fits n m p z all (w q)) (λ l z w q. index_back n m p z all (w q))
    (stopped_as index in_brackets (λ q. q.1) (index_along m rest) s))) f)

pub place_indexed : (n m : ℕ) (ts rest after : Tokens) (p : Path) (q : Spot × Expression) → PathTook n ts p rest
    → Is (tok.Sign sign.OpenBracket) (head rest) → m + length p.steps + 1 ≡ n
    → Took in_brackets (AtMostInside m) Always rest q after →
    Took place_operand (AtMostMarks n) (Ends 5) ts (Item p q.1) after
place_indexed n m ts rest after p q t i all u = took_as place_operand place_parts place_of (place_along n ts)
    (took_then (PlacedAtMost n) place_links t
    (took_optional {V = λ l. PlacedAtMost n l p} {W = AtMostMarks m}
    (λ g. is_isnt (tok.Sign sign.OpenBracket) (head rest) i (no_bracket (head rest) g)) (λ o g. tt)
    (λ l z w q. index_fits n m p z all (w q)) (λ l z w q. index_back n m p z all (w q))
    (took_as index in_brackets (λ q. q.1) (index_along m rest) u)))

-- ---- a form whose first token counts, where none may

-- a tree that begins with the token of the form
abbrev mark_tree : Marked → Spot → Expression
mark_tree mark.Len at = Length (record { root = io_name; steps = [] }) at
mark_tree mark.Paren at = Grouped zero_expression at
mark_tree mark.Not at = Negated zero_expression at
mark_tree mark.Minus at = Minus zero_expression at

abbrev mark_after : Marked → Tokens
mark_after mark.Len = at_once (tok.Name 0)
mark_after mark.Paren = at_once (tok.Int (pos 0)) ++ at_once (tok.Sign sign.CloseParen)
mark_after mark.Not = at_once (tok.Int (pos 0))
mark_after mark.Minus = at_once (tok.Int (pos 0))

mark_known : (m : Marked) → AreSpellable (mark_after m)
mark_known mark.Len = (refl, tt)
mark_known mark.Paren = (tt, (tt, tt))
mark_known mark.Not = (tt, tt)
mark_known mark.Minus = (tt, tt)

abbrev mark_token : Marked → Spot → Lexeme
mark_token m at = record { kind = mark_kind m; at = at }

mark_goes_on : (m : Marked) (at : Spot) → at_level 5 (mark_tree m at) (mark_token m at ∷ mark_after m)
mark_goes_on mark.Len at = record {
  front = mark_token mark.Len at ∷ [];
  back = mark_after mark.Len;
  parts = refl;
  first = refl;
  second =
      record { front = at_once (tok.Name 0); back = []; parts = refl; first = inl refl; second = refl };
}
mark_goes_on mark.Paren at = record {
  front = mark_token mark.Paren at ∷ [];
  back = mark_after mark.Paren;
  parts =
      refl;
  first = refl;
  second = record {
    front = at_once (tok.Int (pos 0));
    back = at_once (tok.Sign sign.CloseParen);
    parts = refl;
    first = refl;
    second
        = (nowhere, refl);
  };
}
mark_goes_on mark.Not at = record
    { front = mark_token mark.Not at ∷ []; back = mark_after mark.Not; parts = refl; first = refl; second = refl }
mark_goes_on mark.Minus at = record {
  front = mark_token mark.Minus at ∷ [];
  back = mark_after mark.Minus;
  parts =
      refl;
  first = refl;
  second = refl;
}

start_of_mark : (m : Marked) → start_of (mark_kind m) ≡ start.Counted m
start_of_mark mark.Len = refl
start_of_mark mark.Paren = refl
start_of_mark mark.Not = refl
start_of_mark mark.Minus = refl

mark_counts : (y : Expression) (m : Marked) → operand_start y ≡ start.Counted m → 0 < marks y
mark_counts (Number n at) m e = let z : start.Literal ≡ start.Counted m = e in cc
mark_counts (Truth b at) m e = let z : start.Literal ≡ start.Counted m = e in cc
mark_counts (Nothing at) m e = let z : start.Literal ≡ start.Counted m = e in cc
mark_counts (Read p) m e = let z : start.Place ≡ start.Counted m = e in cc
mark_counts (Item p a) m e = let z : start.Place ≡ start.Counted m = e in cc
mark_counts (Length p at) m e = omega arith
mark_counts (Grouped a at) m e = omega arith
mark_counts (Negated a at) m e = omega arith
mark_counts (Minus a at) m e = omega arith
mark_counts (Binary o a b) m e = let z : start.Other ≡ start.Counted m = e in cc

-- the next token, where it is this one
next_is : (k : Lexical) (ts : Tokens) → Next k ts → (t : Lexeme) × (later : Tokens) × (ts ≡ t ∷ later) × (t.kind ≡ k)
next_is k [] i = absurd i
next_is k (t ∷ ts) i = (t, ts, refl, i)

pub starts_mark : (m : Marked) (ts : Tokens) → Next (mark_kind m) ts → (t : Lexeme) × (later : Tokens)
    × (ts ≡ t ∷ later) × (start_of t.kind ≡ start.Counted m)
starts_mark m ts i = let b = next_is (mark_kind m) ts i in (b.0, b.1, b.2, ap start_of b.3 ∙ start_of_mark m)

-- one token too many
pub mark_over : (m : Marked) (n : ℕ) (ts : Tokens) → n ≡ 0 → Next (mark_kind m) ts
    → Stopped (at_level 5) (AtMostMarks n) (Ends 5) ts (Over Depth) (length ts)
mark_over m n ts none i =
    let b = next_is (mark_kind m) ts i in
    let is : start_of b.0.kind ≡ start.Counted m = ap start_of b.3 ∙ start_of_mark m in
    let token_is : b.0 ≡ mark_token m b.0.at = ap (λ k. record { kind = k; at = b.0.at }) b.3 in
    let P : Lexeme → Type 0 = λ t. at_level 5 (mark_tree m b.0.at) (t ∷ mark_after m) in
    over_here (Over Depth) (has_at_level 5 n)
    (λ y us r d h w. omega (arith, mark_counts y m (form_is (start.Counted m) y us r ts b.1 b.0 is b.2 d h), none, w refl))
    (record {
      next = b.0;
      later = b.1;
      rest_is = b.2;
      tree = mark_tree m b.0.at;
      after = mark_after m;
      known
          = mark_known m;
      goes_on = subst P (sym token_is) (mark_goes_on m b.0.at);
      passes = tt;
      others =
          λ l k e. none_before l k e;
    })

pub marked_took : (m : Marked) (n : ℕ) (ts rest : Tokens) (x : Expression) → Next (mark_kind m) ts
    → Took (operand (start.Counted m)) (AtMostMarks n) (Ends 5) ts x rest
    → Took (at_level 5) (AtMostMarks n) (Ends 5) ts x rest
marked_took m n ts rest x i t = let b = starts_mark m ts i in operand_took (start.Counted m) n ts b.1 rest b.0 x b.3
    b.2 t

pub marked_failed : (m : Marked) (n : ℕ) (ts : Tokens) (e : Fail) → Next (mark_kind m) ts
    → Failed (operand (start.Counted m)) (AtMostMarks n) (Ends 5) ts e
    → Failed (at_level 5) (AtMostMarks n) (Ends 5) ts e
marked_failed m n ts e i f = let b = starts_mark m ts i in operand_failed (start.Counted m) n ts b.1 b.0 e b.3 b.2 f
