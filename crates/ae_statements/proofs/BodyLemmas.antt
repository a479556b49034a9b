-- The statements of a method, the last one perhaps a `return`.
use Rattle.std.proofs.Common.{◌≡◌, ◌+◌, ◌≤◌, ◌<◌, ◌++◌, List, [], ◌∷◌, ◌⊎◌, inl, inr, length, Option, Some, None}
use Rattle.std.proofs.Common.{refl, sym, ap, ◌∙◌, subst, arith, pos}
use Rattle.ae_text.specs.declared.refusal.Spot.{Spot}
use Rattle.ae_text.specs.declared.token.Keyword.TheVariants as word
use Rattle.ae_text.specs.declared.token.Sign.TheVariants as sign
use Rattle.ae_tree.specs.declared.lexeme.Lexeme.{Lexeme}
use Rattle.ae_tree.specs.declared.lexeme.Lexical.TheVariants as tok
use Rattle.ae_tree.specs.declared.limits.Limit.{Limit}
use Rattle.ae_tree.specs.declared.limits.Limit.TheVariants as limit
use Rattle.ae_tree.specs.declared.tree.Stmt.{Stmt}
use Rattle.ae_tree.specs.Plain.{Expression, Number, Lines, End, Next, Returns}
use Rattle.ae_tree.specs.Shown as shown
use Rattle.ae_tree.specs.Grammar.{Tokens, ◌⨾◌, one_token, one_at, whole_expression, statements, with_return}
use Rattle.ae_tree.specs.Grammar as grammar
use Rattle.ae_tree.specs.Limits.{KeepsDepth, IsFew, EachKeeps, KeepsBlock, statement_count}
use Rattle.ae_reading.specs.declared.fail.Fail.{Fail}
use Rattle.ae_reading.specs.declared.fail.Why.TheVariants.{Over}
use Rattle.ae_reading.specs.Reads.{head, Always, Free, Is, Took, Stopped, Failed, Larger, Token}
use Rattle.ae_statements.proofs.from_reading.ReadsLemmas.{Lang, Bound, Follow, Links, Both, Limits, Pair, Along, Has}
use Rattle.ae_statements.proofs.from_reading.ReadsLemmas.{NoneAt, took_as, failed_as, stopped_as, failed_by}
use Rattle.ae_statements.proofs.from_reading.ReadsLemmas.{took_then, stopped_second, stopped_first_with, lead_here}
use Rattle.ae_statements.proofs.from_reading.ReadsLemmas.{nowhere, at_once, free, first, second, both, took_before}
use Rattle.ae_statements.proofs.from_reading.ReadsLemmas.{failed_before}
use Rattle.ae_statements.proofs.from_reading.Parts.{Optional, took_absent, took_present, failed_present}
use Rattle.ae_statements.proofs.from_reading.Begins.{opens_at, opens_other}
use Rattle.ae_statements.specs.Productions.{Closes, with_semicolon, returned, KeepsReturned, body_statements}
use Rattle.ae_statements.proofs.ShapeLemmas.{Pre, Suf, Lets, took_pre, pre_first, pre_second, took_suf, suf_first}
use Rattle.ae_statements.proofs.ShapeLemmas.{suf_second, has_suf, has_whole}
use Rattle.ae_statements.proofs.BlockLemmas.{opening, closing, KeepsLines, none_keep}

-- ---- a `return`

abbrev Returning : Lang (Spot × Expression)
Returning = Both (Token (tok.Word word.Return)) (with_semicolon whole_expression)

returned_along : (ts : Tokens) → Along returned Returning KeepsReturned (Pair Free KeepsDepth) ts (λ q. q)
returned_along ts = record {
  intro = λ q us d. d;
  cases = λ y us r d h. (y, refl, d);
  to = λ q us d l v. v.1;
  from =
      λ q us d l v. (tt, v);
}

pub returned_took : {ts mid rest : Tokens} {at : Spot} {e : Expression}
    → Took (Token (tok.Word word.Return)) Free Always ts at mid
    → Took (with_semicolon whole_expression) KeepsDepth Always mid e rest
    → Took returned KeepsReturned Always ts (at, e) rest
returned_took {ts} t u = took_as returned Returning (λ q. q) (returned_along ts)
    (both (free (with_semicolon whole_expression) Always) t u)

pub returned_first : {ts : Tokens} {e : Fail} → Failed (Token (tok.Word word.Return)) Free Always ts e
    → Failed returned KeepsReturned Always ts e
returned_first {ts} f = failed_as returned Returning (λ q. q) (returned_along ts)
    (first (free (with_semicolon whole_expression) Always)
    (has_suf (tok.Sign sign.Semicolon) whole_expression tt has_whole) f)

pub returned_second : {ts mid : Tokens} {at : Spot} {e : Fail}
    → Took (Token (tok.Word word.Return)) Free Always ts at mid
    → Failed (with_semicolon whole_expression) KeepsDepth Always mid e → Failed returned KeepsReturned Always ts e
returned_second {ts} t f = failed_as returned Returning (λ q. q) (returned_along ts)
    (second (free (with_semicolon whole_expression) Always) t f)

-- ---- limits

abbrev Last : Type 0
Last = Option (Spot × Expression)

-- one more statement may stand behind these
abbrev HasRoom : Limit → Lines → Type 0
HasRoom limit.Statements b = statement_count b < 1024
HasRoom l b = Unit {0}

abbrev KeepsLast : Limit → Lines → Last → Type 0
KeepsLast l b None = Unit {0}
KeepsLast l b (Some r) = HasRoom l b × KeepsDepth l r.1

pub with_none : (b : Lines) → with_return b None ≡ b
with_none End = refl
with_none (Next at a rest) = ap (λ l. Next at a l) (with_none rest)

count_with : (b : Lines) (r : Spot × Expression) → statement_count (with_return b (Some r)) ≡ statement_count b + 1
count_with End r = refl
count_with (Next at a rest) r = let h : statement_count (with_return rest (Some r)) ≡ statement_count rest + 1 =
    count_with rest r in omega (arith, h)

each_with : (l : Limit) (b : Lines) (r : Spot × Expression) → EachKeeps l 63 b → KeepsDepth l r.1
    → EachKeeps l 63 (with_return b (Some r))
each_with l End r all k = (k, tt)
each_with l (Next at a rest) r all k = (all.0, each_with l rest r all.1 k)

each_without : (l : Limit) (b : Lines) (r : Spot × Expression) → EachKeeps l 63 (with_return b (Some r))
    → EachKeeps l 63 b × KeepsDepth l r.1
each_without l End r all = (tt, all.0)
each_without l (Next at a rest) r all = let p = each_without l rest r all.1 in ((all.0, p.0), p.1)

few_with : (l : Limit) (b : Lines) (r : Spot × Expression) → HasRoom l b → IsFew l (with_return b (Some r))
few_with limit.Statements b r room = omega (arith, room, count_with b r)
few_with limit.Levels b r room = tt
few_with limit.Depth b r room = tt
few_with limit.Params b r room = tt

few_without : (l : Limit) (b : Lines) (r : Spot × Expression) → IsFew l (with_return b (Some r))
    → IsFew l b × HasRoom l b
few_without limit.Statements b r few = (omega (arith, few, count_with b r), omega (arith, few, count_with b r))
few_without limit.Levels b r few = (tt, tt)
few_without limit.Depth b r few = (tt, tt)
few_without limit.Params b r few = (tt, tt)

keeps_to : (l : Limit) (b : Lines) (o : Last) → KeepsBlock l 63 b → KeepsLast l b o → KeepsBlock l 63 (with_return b o)
keeps_to l b None k v = let P : Lines → Type 0 = λ c. KeepsBlock l 63 c in subst P (sym (with_none b)) k
keeps_to l b (Some r) k v = (few_with l b r v.0, each_with l b r k.1 v.1)

keeps_from : (l : Limit) (b : Lines) (o : Last) → KeepsBlock l 63 (with_return b o)
    → Limits (KeepsLines 63) KeepsLast l (b, o)
keeps_from l b None k = let P : Lines → Type 0 = λ c. KeepsBlock l 63 c in (subst P (with_none b) k, tt)
keeps_from l b (Some r) k =
    let few = few_without l b r k.0 in
    let all = each_without l b r k.1 in
    ((few.0, all.0), (few.1, all.1))

-- ---- statements, and perhaps a `return`

abbrev Ending : Follow
Ending = Is closing

abbrev Parts : Lang (Lines × Last)
Parts = Both (statements 1) grammar.return_end

abbrev joined : Lines × Last → Lines
joined q = with_return q.0 q.1

parts_along : (ts : Tokens) → Along body_statements Parts (KeepsLines 63) (Limits (KeepsLines 63) KeepsLast) ts joined
parts_along ts = record {
  intro = λ q us d. (q.0, q.1, refl, d);
  cases = λ y us r d h. ((d.0, d.1), d.2, d.3);
  to = λ q us d l v. keeps_to l q.0 q.1 v.0 v.1;
  from = λ q us d l v. keeps_from l q.0 q.1 v;
}

last_link : Links grammar.return_end Ending Closes
last_link None us r d f = let P : Tokens → Type 0 = λ l. Closes (head (l ++ r)) in subst P (sym d) (inl f)
last_link (Some q) us r d f = let b = opens_at us r d in let P : Option Lexeme
    → Type 0 = Closes in subst P (sym b.front) (inr b.kind)

last_cases : (y : Last) (us : Tokens) → grammar.return_end y us → ((y ≡ None) × (us ≡ []))
    ⊎ ((q : Spot × Expression) × (y ≡ Some q) × returned q us)
last_cases None us d = inl (refl, d)
last_cases (Some q) us d = inr (q, refl, d)

abbrev KeepsSome : Lines → Bound (Spot × Expression)
KeepsSome b l q = HasRoom l b × KeepsDepth l q.1

last_optional : (b : Lines) → Optional grammar.return_end returned (λ l. KeepsLast l b) (KeepsSome b) None Some
last_optional b = record {
  absent = refl;
  present = λ q us d. d;
  cases = last_cases;
  none_within = λ l. tt;
  to = λ q us d l v. v;
  from = λ q us d l v. v;
}

room_at : (l : Limit) (b : Lines) → statement_count b < 1024 → HasRoom l b
room_at limit.Statements b few = few
room_at limit.Levels b few = tt
room_at limit.Depth b few = tt
room_at limit.Params b few = tt

some_along : (b : Lines) (ts : Tokens) → statement_count b < 1024
    → Along returned returned (KeepsSome b) KeepsReturned ts (λ q. q)
some_along b ts few = record {
  intro = λ q us d. d;
  cases = λ y us r d h. (y, refl, d);
  to =
      λ q us d l v. (room_at l b few, v);
  from = λ q us d l v. v.1;
}

no_return : (ts : Tokens) → (Is (tok.Word word.Return) (head ts) → ⊥) → NoneAt returned ts
no_return ts none y us r d h = opens_other us r ts (opens_at us r d) h none

return_no_end : (o : Option Lexeme) → Is (tok.Word word.Return) o → Ending o → ⊥
return_no_end None i e = i
return_no_end (Some t) i e = let same : tok.Word word.Return ≡ closing = sym i ∙ e in cc

-- the statements fail
pub lines_first : {ts : Tokens} {e : Fail} → Failed (statements 1) (KeepsLines 63) Closes ts e
    → Failed body_statements (KeepsLines 63) Ending ts e
lines_first {ts} f = failed_as body_statements Parts joined (parts_along ts)
    (failed_by (λ why left s. stopped_first_with KeepsLast last_link None [] refl tt (λ l x w. tt) s) f)

-- no `return` comes
pub lines_alone : {ts rest : Tokens} {b : Lines} → (Is (tok.Word word.Return) (head rest) → ⊥)
    → Took (statements 1) (KeepsLines 63) Closes ts b rest → Took body_statements (KeepsLines 63) Ending ts b rest
lines_alone {ts} {rest} {b} none t =
    let P : Lines → Type 0 = λ c. Took body_statements (KeepsLines 63) Ending ts c rest in
    subst P (with_none b) (took_as body_statements Parts joined (parts_along ts)
    (took_then KeepsLast last_link t (took_absent Ending (last_optional b) (no_return rest none))))

pub lines_last : {ts mid rest : Tokens} {b : Lines} {q : Spot × Expression} → statement_count b < 1024
    → Is (tok.Word word.Return) (head mid) →
    Took (statements 1) (KeepsLines 63) Closes ts b mid → Took returned KeepsReturned Always mid q rest
    → Took body_statements (KeepsLines 63) Ending ts (with_return b (Some q)) rest
lines_last {ts} {mid} {rest} {b} few is t u = took_as body_statements Parts joined (parts_along ts)
    (took_then KeepsLast last_link t
    (took_present (last_optional b) (return_no_end (head mid) is)
    (took_before {F = Always} {G = Ending} (λ o f. tt)
    (took_as returned returned (λ q. q) (some_along b mid few) u))))

-- the `return` fails
pub lines_second : {ts mid : Tokens} {b : Lines} {e : Fail} → statement_count b < 1024
    → Is (tok.Word word.Return) (head mid) →
    Took (statements 1) (KeepsLines 63) Closes ts b mid → Failed returned KeepsReturned Always mid e
    → Failed body_statements (KeepsLines 63) Ending ts e
lines_second {ts} {mid} {b} few is t f = failed_as body_statements Parts joined (parts_along ts)
    (failed_by (λ why left s. stopped_second KeepsLast last_link t s)
    (failed_present (last_optional b) (return_no_end (head mid) is)
    (failed_before {F = Always} {G = Ending} (λ o f. tt)
    (failed_as returned returned (λ q. q) (some_along b mid few) f))))

-- a `return` behind 1,024 statements
last_stuck : (b : Lines) (rest : Tokens) → 1024 ≤ statement_count b → Is (tok.Word word.Return) (head rest) →
    (y : Last) (us r other : Tokens) → grammar.return_end y us → us ++ r ≡ other → head other ≡ head rest
    → Ending (head r) → KeepsLast limit.Statements b y → ⊥
last_stuck b rest full is None us r other d e h f w = let P : Option Lexeme
    → Type 0 = Ending in return_no_end (head rest) is (subst P (ap (λ l. head (l ++ r)) (sym d) ∙ ap head e ∙ h) f)
last_stuck b rest full is (Some q) us r other d e h f w = absurd (omega (arith, full, w.0))

abbrev zero_end : Tokens
zero_end = record { kind = tok.Int (pos 0); at = nowhere } ∷ record { kind = tok.Sign sign.Semicolon; at = nowhere }
    ∷ []

last_larger : (W : Limit → Last → Type 0) (rest : Tokens) → Is (tok.Word word.Return) (head rest)
    → Larger limit.Statements grammar.return_end W [] rest
last_larger W [] is = absurd is
last_larger W (t ∷ rest) is = record {
  others = λ m k. absurd (omega (arith, k));
  next = t;
  later = rest;
  rest_is = refl;
  tree = Some (t.at, Number (pos 0) nowhere);
  after = zero_end;
  goes_on = record {
    front = t ∷ [];
    back = zero_end;
    parts = refl;
    first = ap (λ k. record { kind = k; at = t.at } ∷ []) is;
    second = record {
      front = at_once (tok.Int (pos 0));
      back = at_once (tok.Sign sign.Semicolon);
      parts = refl;
      first
          = refl;
      second = (nowhere, refl);
    };
  };
  known = (tt, (tt, tt));
  passes = tt;
}

last_full : (b : Lines) (rest : Tokens) → 1024 ≤ statement_count b → Is (tok.Word word.Return) (head rest)
    → Stopped grammar.return_end (λ l. KeepsLast l b) Ending rest (Over limit.Statements) (length rest)
last_full b rest full is = record {
  before = [];
  rest = rest;
  whole = refl;
  left_is = refl;
  tree = None;
  more = [];
  goes = refl;
  known = tt;
  within = λ l. tt;
  lead = lead_here [] None [] refl tt (λ l. tt);
  no_end = tt;
  stuck = λ y us r other d e h f w. last_stuck b rest full is y us r other d e h f w;
  beyond = last_larger (λ l. KeepsLast l b) rest is;
}

pub lines_full : {ts rest : Tokens} {b : Lines} → 1024 ≤ statement_count b → Is (tok.Word word.Return) (head rest)
    → Took (statements 1) (KeepsLines 63) Closes ts b rest → Stopped body_statements (KeepsLines 63) Ending ts
    (Over limit.Statements) (length rest)
lines_full {ts} {rest} {b} full is t = stopped_as body_statements Parts joined (parts_along ts)
    (stopped_second KeepsLast last_link t (last_full b rest full is))

-- ---- a body

abbrev Braced : Lang Lines
Braced = Pre opening (Suf body_statements closing)

body_intro : (b : Lines) (us : Tokens) → Braced b us → grammar.method_body b us
body_intro b us d = let s = d.second.first in (
  s.0,
  s.1,
  s.2,
  record {
    front = d.front;
    back = d.back;
    parts = d.parts;
    first = d.first;
    second = record {
      front = d.second.front;
      back = d.second.back;
      parts = d.second.parts;
      first = s.3;
      second =
          d.second.second;
    };
  },
)

body_cases : (b : Lines) (us : Tokens) → grammar.method_body b us → Braced b us
body_cases b us c = let d = c.3 in record {
  front = d.front;
  back = d.back;
  parts = d.parts;
  first = d.first;
  second = record {
    front = d.second.front;
    back = d.second.back;
    parts = d.second.parts;
    first =
        (c.0, c.1, c.2, d.second.first);
    second = d.second.second;
  };
}

body_along : (ts : Tokens) → Along grammar.method_body Braced (KeepsLines 63) (KeepsLines 63) ts (λ b. b)
body_along ts = record {
  intro = body_intro;
  cases = λ y us r d h. (y, refl, body_cases y us d);
  to =
      λ q us d l v. v;
  from = λ q us d l v. v;
}

ending_lets : Lets closing Ending
ending_lets t e = e

has_returning : Has body_statements (KeepsLines 63)
has_returning = record {
  tree = End;
  tokens = [];
  is =
      (End, None, refl, record { front = []; back = []; parts = refl; first = refl; second = refl });
  known = tt;
  within
      = none_keep 63;
}

pub body_took : {ts mid behind rest : Tokens} {at end : Spot} {b : Lines} →
    Took (Token opening) Free Always ts at mid → Took body_statements (KeepsLines 63) Ending mid b behind
    → Took (Token closing) Free Always behind end rest → Took grammar.method_body (KeepsLines 63) Always ts b rest
body_took {ts} t u v = took_as grammar.method_body Braced (λ b. b) (body_along ts)
    (took_pre (Suf body_statements closing) t (took_suf body_statements ending_lets u v))

pub body_first : {ts : Tokens} {e : Fail} → Failed (Token opening) Free Always ts e
    → Failed grammar.method_body (KeepsLines 63) Always ts e
body_first {ts} f = failed_as grammar.method_body Braced (λ b. b) (body_along ts)
    (pre_first (Suf body_statements closing) (has_suf closing body_statements tt has_returning) f)

pub body_inner : {ts mid : Tokens} {at : Spot} {e : Fail} → Took (Token opening) Free Always ts at mid
    → Failed body_statements (KeepsLines 63) Ending mid e → Failed grammar.method_body (KeepsLines 63) Always ts e
body_inner {ts} t f = failed_as grammar.method_body Braced (λ b. b) (body_along ts)
    (pre_second (Suf body_statements closing) t (suf_first body_statements ending_lets tt f))

pub body_last : {ts mid behind : Tokens} {at : Spot} {b : Lines} {e : Fail}
    → Took (Token opening) Free Always ts at mid → Took body_statements (KeepsLines 63) Ending mid b behind
    → Failed (Token closing) Free Always behind e → Failed grammar.method_body (KeepsLines 63) Always ts e
body_last {ts} t u f = failed_as grammar.method_body Braced (λ b. b) (body_along ts)
    (pre_second (Suf body_statements closing) t (suf_second body_statements ending_lets u f))

-- ---- the tree

pub count_lines : (xs : List Stmt) → statement_count (shown.lines_from xs) ≡ length xs
count_lines [] = refl
count_lines (x ∷ xs) = let h : statement_count (shown.lines_from xs) ≡ length xs = count_lines xs in omega (arith, h)

pub lines_snoc : (xs : List Stmt) (x : Stmt) (e : Expression) → shown.action x.kind ≡ Returns e
    → shown.lines_from (xs ++ x ∷ []) ≡ with_return (shown.lines_from xs) (Some (x.at, e))
lines_snoc [] x e k = ap (λ a. Next x.at a End) k
lines_snoc (y ∷ xs) x e k = ap (λ l. Next y.at (shown.action y.kind) l) (lines_snoc xs x e k)
