-- Statements that begin with a path.
use Rattle.std.proofs.Common.{◌≡◌, ℕ, ◌++◌, List, [], ◌∷◌, ◌⊎◌, inl, inr, Bool, true, false, Option, Some, None}
use Rattle.std.proofs.Common.{refl, sym, ap, ◌∙◌, append_assoc, append-nil, subst}
use Rattle.ae_text.specs.declared.refusal.Spot.{Spot}
use Rattle.ae_text.specs.declared.token.Keyword.TheVariants as word
use Rattle.ae_text.specs.declared.token.Sign.TheVariants as sign
use Rattle.ae_tree.specs.declared.lexeme.Lexeme.{Lexeme}
use Rattle.ae_tree.specs.declared.lexeme.Lexical.{Lexical}
use Rattle.ae_tree.specs.declared.lexeme.Lexical.TheVariants as tok
use Rattle.ae_tree.specs.declared.limits.Limit.{Limit}
use Rattle.ae_tree.specs.declared.tree.NameAt.{NameAt}
use Rattle.ae_tree.specs.declared.tree.Path.{Path}
use Rattle.ae_tree.specs.Plain.{Expression, RightSide, Invocation}
use Rattle.ae_tree.specs.Plain.{Action, Declares, Assigns, Stores, StoresAt, Calls, Chooses, ChoosesElse, Repeats}
use Rattle.ae_tree.specs.Plain.{Groups, Splits, Locks, Freezes, Shares, Prints, PrintsText, Asserts, Returns}
use Rattle.ae_tree.specs.Grammar.{Tokens, ◌⨾◌, a_sign, name, path_step, path, one_by_one, whole_expression, receiver}
use Rattle.ae_tree.specs.Grammar.{call_written, statement, spot_or}
use Rattle.ae_tree.specs.Limits.{KeepsDepth, KeepsRight, KeepsIn}
use Rattle.ae_reading.specs.declared.fail.Fail.{Fail}
use Rattle.ae_reading.specs.Reads.{head, Always, Free, Is, Isnt, IsName, Took, Failed}
use Rattle.ae_statements.proofs.from_reading.ReadsLemmas.{Lang, Bound, Follow, Links, Both, Limits, Pair, Has, Along}
use Rattle.ae_statements.proofs.from_reading.ReadsLemmas.{failed_by, has_both, After, AfterLinks, HasEach}
use Rattle.ae_statements.proofs.from_reading.ReadsLemmas.{took_after, after_first, after_second}
use Rattle.ae_statements.proofs.from_reading.Begins.{Opens, is_isnt, opens_mark, opens_first, opens_is, opens_other}
use Rattle.ae_statements.proofs.from_reading.Begins.{opens_isnt}
use Rattle.ae_expressions.specs.Ends.{Ends}
use Rattle.ae_statements.specs.declared.led.Front.{Front}
use Rattle.ae_statements.specs.declared.led.Front.TheVariants as front
use Rattle.ae_statements.specs.Productions.{with_semicolon, local_value, call_rest, KeepsCalled, stored_value}
use Rattle.ae_statements.specs.Productions.{indexed, KeepsIndexed, Tailed, Assigned, Stored, StoredAt, Called, tail}
use Rattle.ae_statements.specs.Productions.{KeepsTail, Only, front_at, front_of, action_of, invoked, last, but_last}
use Rattle.ae_statements.specs.Productions.{receiver_of, stmt, KeepsStmt, IsRoot}
use Rattle.ae_statements.proofs.ShapeLemmas.{Pre, Lets, begins_lets, has_pre, has_whole, sign_ends}
use Rattle.ae_statements.proofs.CallLemmas.{invoked_some}
use Rattle.ae_statements.proofs.FormLemmas.{formed, is_led, call_path}
use Rattle.ae_statements.proofs.SimpleLemmas.{has_ended}
use Rattle.ae_statements.proofs.PathLemmas.{Named, spelled, spelled_path, path_by, took_spelled, failed_spelled}
use Rattle.ae_statements.proofs.UniqueRightSides.{joined}

-- ---- parts

pub pre_link : {A : Type 0} (k : Lexical) (D : Lang A) (F G : Follow) → Lets k F → Links (Pre k D) G F
pre_link k D F G lets y us r d g = begins_lets F us r lets (opens_mark us r d)

pub has_stored : Has stored_value KeepsDepth
has_stored = has_pre (tok.Sign sign.Assign) (with_semicolon whole_expression) tt (has_ended whole_expression has_whole)

abbrev pub bracketed : Lang Expression
bracketed = Pre (tok.Sign sign.CloseBracket) stored_value

pub has_bracketed : Has bracketed KeepsDepth
has_bracketed = has_pre (tok.Sign sign.CloseBracket) stored_value tt has_stored

abbrev pub inside : Lang (Expression × Expression)
inside = Both whole_expression bracketed

pub has_inside : Has inside (Pair KeepsDepth KeepsDepth)
has_inside = has_both has_whole has_bracketed

pub bracket_ends : Links bracketed Always (Ends 0)
bracket_ends = pre_link (tok.Sign sign.CloseBracket) stored_value (Ends 0) Always (sign_ends sign.CloseBracket refl)

pub has_indexed : Has indexed KeepsIndexed
has_indexed = has_pre (tok.Sign sign.OpenBracket) inside tt has_inside

-- ---- what a tail begins with

called_begins : (gs : List NameAt) (es : List Expression) (us r : Tokens) → call_rest (gs, es) us
    → Opens us r (tok.Sign sign.OpenParen) ⊎ Opens us r (tok.Sign sign.Less)
called_begins [] es us r d =
    let P : Tokens → Type 0 = λ l. Opens l r (tok.Sign sign.OpenParen) in
    let same : d.back ≡ us = sym (d.parts ∙ ap (λ l. l ++ d.back) d.first) in
    inl (subst P same (opens_first d.back r d.second (opens_mark d.second.front (d.second.back ++ r) d.second.first)))
called_begins (g ∷ gs) es us r d = inr (opens_first us r d (opens_mark d.front (d.back ++ r) d.first))

either_isnt : (j : Lexical) (us r : Tokens) → (tok.Sign sign.OpenParen ≡ j → ⊥) → (tok.Sign sign.Less ≡ j → ⊥)
    → Opens us r (tok.Sign sign.OpenParen) ⊎ Opens us r (tok.Sign sign.Less) → Isnt j (head (us ++ r))
either_isnt j us r n m (inl b) = opens_isnt us r b n
either_isnt j us r n m (inr b) = opens_isnt us r b m

abbrev Dot : Lexical
Dot = tok.Sign sign.Dot

paren_dot : tok.Sign sign.OpenParen ≡ Dot → ⊥
paren_dot e = cc

less_dot : tok.Sign sign.Less ≡ Dot → ⊥
less_dot e = cc

assign_dot : tok.Sign sign.Assign ≡ Dot → ⊥
assign_dot e = cc

bracket_dot : tok.Sign sign.OpenBracket ≡ Dot → ⊥
bracket_dot e = cc

pub called_no_dot : (q : List NameAt × List Expression) (us r : Tokens) → call_rest q us → Isnt Dot (head (us ++ r))
called_no_dot q us r d = either_isnt Dot us r paren_dot less_dot (called_begins q.0 q.1 us r d)

-- no field is named behind the path
pub no_dot : (f : Front) (t : Tailed) (us r : Tokens) → tail f t us → Isnt Dot (head (us ++ r))
no_dot front.Local (Assigned e) us r d = opens_isnt us r (opens_mark us r d) assign_dot
no_dot front.Local (Stored e) us r d = absurd d
no_dot front.Local (StoredAt i e) us r d = opens_isnt us r (opens_mark us r d) bracket_dot
no_dot front.Local (Called gs es) us r d = called_no_dot (gs, es) us r d
no_dot front.Member (Assigned e) us r d = absurd d
no_dot front.Member (Stored e) us r d = opens_isnt us r (opens_mark us r d) assign_dot
no_dot front.Member (StoredAt i e) us r d = opens_isnt us r (opens_mark us r d) bracket_dot
no_dot front.Member (Called gs es) us r d = called_no_dot (gs, es) us r d
no_dot front.This (Assigned e) us r d = absurd d
no_dot front.This (Stored e) us r d = absurd d
no_dot front.This (StoredAt i e) us r d = opens_isnt us r (opens_mark us r d) bracket_dot
no_dot front.This (Called gs es) us r d = absurd d

-- ---- tails by what comes next

at_index : (f : Front) (i e : Expression) (us : Tokens) → indexed (i, e) us → tail f (StoredAt i e) us
at_index front.Local i e us d = d
at_index front.Member i e us d = d
at_index front.This i e us d = d

assign_bracket : tok.Sign sign.Assign ≡ tok.Sign sign.OpenBracket → ⊥
assign_bracket e = cc

paren_bracket : tok.Sign sign.OpenParen ≡ tok.Sign sign.OpenBracket → ⊥
paren_bracket e = cc

less_bracket : tok.Sign sign.Less ≡ tok.Sign sign.OpenBracket → ⊥
less_bracket e = cc

not_bracket : (us r ts : Tokens) → Isnt (tok.Sign sign.OpenBracket) (head (us ++ r)) → head (us ++ r) ≡ head ts
    → Is (tok.Sign sign.OpenBracket) (head ts) → ⊥
not_bracket us r ts n h i = let P : Option Lexeme → Type 0 = Isnt (tok.Sign sign.OpenBracket) in is_isnt
    (tok.Sign sign.OpenBracket) (head ts) i (subst P h n)

local_this : front.Local ≡ front.This → ⊥
local_this e = cc

member_this : front.Member ≡ front.This → ⊥
member_this e = cc

only_bracket : (f : Front) (us r ts : Tokens) → Only f ts → (f ≡ front.This → ⊥)
    → Isnt (tok.Sign sign.OpenBracket) (head (us ++ r)) → head (us ++ r) ≡ head ts → ⊥
only_bracket f us r ts (inl i) no_this n h = not_bracket us r ts n h i
only_bracket f us r ts (inr e) no_this n h = no_this e

index_cases : (f : Front) (ts : Tokens) → Only f ts → (t : Tailed) (us r : Tokens) → tail f t us
    → head (us ++ r) ≡ head ts → (q : Expression × Expression) × (t ≡ StoredAt q.0 q.1) × indexed q us
index_cases front.Local ts o (Assigned e) us r d h =
    absurd (only_bracket front.Local us r ts o local_this (opens_isnt us r (opens_mark us r d) assign_bracket) h)
index_cases front.Local ts o (Stored e) us r d h = absurd d
index_cases front.Local ts o (StoredAt i e) us r d h = ((i, e), refl, d)
index_cases front.Local ts o (Called gs es) us r d h =
    absurd (only_bracket front.Local us r ts o local_this
    (either_isnt _ us r paren_bracket less_bracket (called_begins gs es us r d)) h)
index_cases front.Member ts o (Assigned e) us r d h = absurd d
index_cases front.Member ts o (Stored e) us r d h =
    absurd (only_bracket front.Member us r ts o member_this (opens_isnt us r (opens_mark us r d) assign_bracket) h)
index_cases front.Member ts o (StoredAt i e) us r d h = ((i, e), refl, d)
index_cases front.Member ts o (Called gs es) us r d h =
    absurd (only_bracket front.Member us r ts o member_this
    (either_isnt _ us r paren_bracket less_bracket (called_begins gs es us r d)) h)
index_cases front.This ts o (Assigned e) us r d h = absurd d
index_cases front.This ts o (Stored e) us r d h = absurd d
index_cases front.This ts o (StoredAt i e) us r d h = ((i, e), refl, d)
index_cases front.This ts o (Called gs es) us r d h = absurd d

abbrev pub at_place : Expression × Expression → Tailed
at_place q = StoredAt q.0 q.1

pub index_along : (f : Front) (ts : Tokens) → Only f ts → Along (tail f) indexed KeepsTail KeepsIndexed ts at_place
index_along f ts o = record {
  intro = λ q us d. at_index f q.0 q.1 us d;
  cases = λ y us r d h. index_cases f ts o y us r d h;
  to = λ q us d l v. v;
  from = λ q us d l v. v;
}

bracket_assign : tok.Sign sign.OpenBracket ≡ tok.Sign sign.Assign → ⊥
bracket_assign e = cc

paren_assign : tok.Sign sign.OpenParen ≡ tok.Sign sign.Assign → ⊥
paren_assign e = cc

less_assign : tok.Sign sign.Less ≡ tok.Sign sign.Assign → ⊥
less_assign e = cc

not_called : (gs : List NameAt) (es : List Expression) (us r ts : Tokens) → call_rest (gs, es) us
    → head (us ++ r) ≡ head ts → Is (tok.Sign sign.Assign) (head ts) → ⊥
not_called gs es us r ts d h is = by_first (called_begins gs es us r d)
  where
    by_first : Opens us r (tok.Sign sign.OpenParen) ⊎ Opens us r (tok.Sign sign.Less) → ⊥
    by_first (inl b) = paren_assign (opens_is us r ts b h is)
    by_first (inr b) = less_assign (opens_is us r ts b h is)

local_cases : (ts : Tokens) → Is (tok.Sign sign.Assign) (head ts) → (t : Tailed) (us r : Tokens)
    → tail front.Local t us → head (us ++ r) ≡ head ts → (e : RightSide) × (t ≡ Assigned e) × local_value e us
local_cases ts is (Assigned e) us r d h = (e, refl, d)
local_cases ts is (Stored e) us r d h = absurd d
local_cases ts is (StoredAt i e) us r d h = absurd (bracket_assign (opens_is us r ts (opens_mark us r d) h is))
local_cases ts is (Called gs es) us r d h = absurd (not_called gs es us r ts d h is)

pub local_along : (ts : Tokens) → Is (tok.Sign sign.Assign) (head ts)
    → Along (tail front.Local) local_value KeepsTail KeepsRight ts Assigned
local_along ts is = record {
  intro = λ q us d. d;
  cases = λ y us r d h. local_cases ts is y us r d h;
  to =
      λ q us d l v. v;
  from = λ q us d l v. v;
}

member_cases : (ts : Tokens) → Is (tok.Sign sign.Assign) (head ts) → (t : Tailed) (us r : Tokens)
    → tail front.Member t us → head (us ++ r) ≡ head ts → (e : Expression) × (t ≡ Stored e) × stored_value e us
member_cases ts is (Assigned e) us r d h = absurd d
member_cases ts is (Stored e) us r d h = (e, refl, d)
member_cases ts is (StoredAt i e) us r d h = absurd (bracket_assign (opens_is us r ts (opens_mark us r d) h is))
member_cases ts is (Called gs es) us r d h = absurd (not_called gs es us r ts d h is)

pub member_along : (ts : Tokens) → Is (tok.Sign sign.Assign) (head ts)
    → Along (tail front.Member) stored_value KeepsTail KeepsDepth ts Stored
member_along ts is = record {
  intro = λ q us d. d;
  cases = λ y us r d h. member_cases ts is y us r d h;
  to =
      λ q us d l v. v;
  from = λ q us d l v. v;
}

abbrev pub calling : List NameAt × List Expression → Tailed
calling q = Called q.0 q.1

call_intro : (f : Front) → (f ≡ front.This → ⊥) → (gs : List NameAt) (es : List Expression) (us : Tokens)
    → call_rest (gs, es) us → tail f (Called gs es) us
call_intro front.Local no_this gs es us d = d
call_intro front.Member no_this gs es us d = d
call_intro front.This no_this gs es us d = absurd (no_this refl)

call_cases : (f : Front) (ts : Tokens) → (Is (tok.Sign sign.Assign) (head ts) → ⊥)
    → (Is (tok.Sign sign.OpenBracket) (head ts) → ⊥) →
    (t : Tailed) (us r : Tokens) → tail f t us → head (us ++ r) ≡ head ts → (q : List NameAt × List Expression)
    × (t ≡ calling q) × call_rest q us
call_cases front.Local ts no_assign no_index (Assigned e) us r d h =
    absurd (opens_other us r ts (opens_mark us r d) h no_assign)
call_cases front.Local ts no_assign no_index (Stored e) us r d h = absurd d
call_cases front.Local ts no_assign no_index (StoredAt i e) us r d h =
    absurd (opens_other us r ts (opens_mark us r d) h no_index)
call_cases front.Local ts no_assign no_index (Called gs es) us r d h = ((gs, es), refl, d)
call_cases front.Member ts no_assign no_index (Assigned e) us r d h = absurd d
call_cases front.Member ts no_assign no_index (Stored e) us r d h =
    absurd (opens_other us r ts (opens_mark us r d) h no_assign)
call_cases front.Member ts no_assign no_index (StoredAt i e) us r d h =
    absurd (opens_other us r ts (opens_mark us r d) h no_index)
call_cases front.Member ts no_assign no_index (Called gs es) us r d h = ((gs, es), refl, d)
call_cases front.This ts no_assign no_index (Assigned e) us r d h = absurd d
call_cases front.This ts no_assign no_index (Stored e) us r d h = absurd d
call_cases front.This ts no_assign no_index (StoredAt i e) us r d h =
    absurd (opens_other us r ts (opens_mark us r d) h no_index)
call_cases front.This ts no_assign no_index (Called gs es) us r d h = absurd d

pub call_along : (f : Front) (ts : Tokens) → (f ≡ front.This → ⊥) → (Is (tok.Sign sign.Assign) (head ts) → ⊥)
    → (Is (tok.Sign sign.OpenBracket) (head ts) → ⊥) → Along (tail f) call_rest KeepsTail KeepsCalled ts calling
call_along f ts no_this no_assign no_index = record {
  intro = λ q us d. call_intro f no_this q.0 q.1 us d;
  cases = λ y us r d h. call_cases f ts no_assign no_index y us r d h;
  to = λ q us d l v. v;
  from = λ q us d l v. v;
}

-- ---- whole statements

abbrev pub tailed : Bool × Path → Lang Tailed
tailed q = tail (front_of q.0 q.1)

abbrev pub led : Lang ((Bool × Path) × Tailed)
led = After spelled tailed

abbrev pub tail_limit : Limit → Bool × Path → Tailed → Type 0
tail_limit l q t = KeepsTail l t

abbrev pub led_limit : Bound ((Bool × Path) × Tailed)
led_limit = Limits Free tail_limit

abbrev pub led_tree : (Bool × Path) × Tailed → Spot × Action
led_tree q = (q.0.1.root.at, action_of q.0.1 q.1)

pub led_links : AfterLinks tailed Always (Isnt (tok.Sign sign.Dot))
led_links q t us r d g = no_dot (front_of q.0 q.1) t us r d

pub has_tails : HasEach tailed Free tail_limit
has_tails = record {
  tree = λ q. StoredAt has_indexed.tree.0 has_indexed.tree.1;
  tokens = λ q. has_indexed.tokens;
  is = λ q. at_index (front_of q.0 q.1) has_indexed.tree.0 has_indexed.tree.1 has_indexed.tokens has_indexed.is;
  known = λ q. has_indexed.known;
  within = λ l q w. has_indexed.within l;
}

-- ---- the path of a call

member_of : (b : Bool) (steps : List NameAt) → (steps ≡ [] → ⊥) → front_at b steps ≡ front.Member
member_of true [] some = absurd (some refl)
member_of false [] some = absurd (some refl)
member_of true (x ∷ xs) some = refl
member_of false (x ∷ xs) some = refl

snoc_some : (x : NameAt) (xs : List NameAt) → xs ++ x ∷ [] ≡ [] → ⊥
snoc_some x [] e = cc
snoc_some x (y ∷ xs) e = cc

steps_apart : (x : NameAt) (xs : List NameAt) (us : Tokens) → one_by_one path_step (x ∷ xs) us
    → (one_by_one path_step (but_last x xs) ⨾ path_step (last x xs)) us
steps_apart x [] us d = record {
  front = [];
  back = us;
  parts = refl;
  first = refl;
  second =
      (let P : Tokens → Type 0 = path_step x in subst P
      (sym (d.parts ∙ ap (λ l. d.front ++ l) d.second ∙ append-nil d.front)) d.first);
}
steps_apart x (y ∷ ys) us d =
    let r = steps_apart y ys d.back d.second in
    record {
      front = d.front ++ r.front;
      back = r.back;
      parts = d.parts ∙ ap (λ l. d.front ++ l) r.parts ∙ sym (append_assoc d.front r.front r.back);
      first = record { front = d.front; back = r.front; parts = refl; first = d.first; second = r.first };
      second = r.second;
    }

regrouped : (a b c d e : Tokens) → (a ++ (b ++ (c ++ d))) ++ e ≡ ((a ++ b) ++ c) ++ (d ++ e)
regrouped a b c d e =
    ap (λ l. l ++ e) (sym (append_assoc a b (c ++ d)) ∙ sym (append_assoc (a ++ b) c d))
    ∙ append_assoc ((a ++ b) ++ c) d e

-- the call of a path with steps
path_call : {q : Tokens → Type 0} (root x : NameAt) (xs : List NameAt) (us : Tokens)
    → (path (record { root = root; steps = x ∷ xs }) ⨾ q) us
    → (receiver (receiver_of root (x ∷ xs)) ⨾ name (last root (x ∷ xs)) ⨾ q) us
path_call root x xs us d =
    let p = d.first in
    let s = steps_apart x xs p.back p.second in
    record {
      front = (p.front ++ s.front) ++ s.second.front;
      back = s.second.back ++ d.back;
      parts = d.parts ∙ ap (λ l. l ++ d.back)
          (p.parts ∙ ap (λ l. p.front ++ l) (s.parts ∙ ap (λ l. s.front ++ l) s.second.parts))
          ∙ regrouped p.front s.front s.second.front s.second.back d.back;
      first = record {
        front = p.front ++ s.front;
        back = s.second.front;
        parts = refl;
        first =
            record { front = p.front; back = s.front; parts = refl; first = p.first; second = s.first };
        second =
            s.second.first;
      };
      second = record {
        front = s.second.back;
        back = d.back;
        parts = refl;
        first = s.second.second;
        second = d.second;
      };
    }

-- the last part of a call's language is a sequence of its own
call_ended : (on : Option Path) (m : NameAt) (gs : List NameAt) (es : List Expression) (us : Tokens)
    → (receiver on ⨾ name m ⨾ call_rest (gs, es)) us →
    (call_written (record { on = on; method = m; groups = gs; args = es }) ⨾ a_sign sign.Semicolon) us
call_ended on m gs es us d = record {
  front = d.front ++ (d.second.front ++ (d.second.second.front ++ d.second.second.second.front));
  back = d.second.second.second.back;
  parts = d.parts ∙ ap (λ l. d.front ++ l)
      (d.second.parts ∙ ap (λ l. d.second.front ++ l)
      (d.second.second.parts ∙ ap (λ l. d.second.second.front ++ l) d.second.second.second.parts))
      ∙ out d.front d.second.front d.second.second.front d.second.second.second.front d.second.second.second.back;
  first = record {
    front = d.front;
    back = d.second.front ++ (d.second.second.front ++ d.second.second.second.front);
    parts = refl;
    first = d.first;
    second =
        record {
          front = d.second.front;
          back = d.second.second.front ++ d.second.second.second.front;
          parts = refl;
          first = d.second.first;
          second =
              record {
                front = d.second.second.front;
                back = d.second.second.second.front;
                parts = refl;
                first =
                    d.second.second.first;
                second = d.second.second.second.first;
              };
        };
  };
  second = d.second.second.second.second;
}
  where
    out : (a b c e f : Tokens) → a ++ (b ++ (c ++ (e ++ f))) ≡ (a ++ (b ++ (c ++ e))) ++ f
    out a b c e f = sym (append_assoc a (b ++ (c ++ e)) f
        ∙ ap (λ l. a ++ l) (append_assoc b (c ++ e) f ∙ ap (λ l. b ++ l) (append_assoc c e f)))

ended_call : (c : Invocation) (us : Tokens) → (call_written c ⨾ a_sign sign.Semicolon) us
    → (receiver c.on ⨾ name c.method ⨾ call_rest (c.groups, c.args)) us
ended_call c us d = record {
  front = d.first.front;
  back = d.first.back ++ d.back;
  parts = d.parts ∙ ap (λ l. l ++ d.back) d.first.parts ∙ append_assoc d.first.front d.first.back d.back;
  first = d.first.first;
  second = record {
    front = d.first.second.front;
    back = d.first.second.back ++ d.back;
    parts = ap (λ l. l ++ d.back) d.first.second.parts ∙ append_assoc d.first.second.front d.first.second.back d.back;
    first = d.first.second.first;
    second = record {
      front = d.first.second.second.front;
      back = d.first.second.second.back ++ d.back;
      parts = ap (λ l. l ++ d.back) d.first.second.second.parts
          ∙ append_assoc d.first.second.second.front d.first.second.second.back d.back;
      first = d.first.second.second.first;
      second = record {
        front = d.first.second.second.back;
        back = d.back;
        parts = refl;
        first =
            d.first.second.second.second;
        second = d.second;
      };
    };
  };
}

-- ---- from a path and a tail to a statement

alone : {q : Tokens → Type 0} (p : Tokens → Type 0) (us : Tokens) → ((p ⨾ one_by_one path_step []) ⨾ q) us → (p ⨾ q) us
alone p us d = record {
  front = d.first.front;
  back = d.back;
  parts = d.parts ∙ ap (λ l. l ++ d.back) (d.first.parts ∙ ap (λ l. d.first.front ++ l) d.first.second
      ∙ append-nil d.first.front);
  first = d.first.first;
  second = d.second;
}

no_receiver : {q : Tokens → Type 0} (x : NameAt) (us : Tokens) → (name x ⨾ q) us → (receiver None ⨾ name x ⨾ q) us
no_receiver x us d = record { front = []; back = us; parts = refl; first = refl; second = d }

local_intro : (n : ℕ) (x : NameAt) (t : Tailed) (us : Tokens)
    → (spelled (true, record { root = x; steps = [] }) ⨾ tail front.Local t) us
    → stmt n (x.at, action_of (record { root = x; steps = [] }) t) us
local_intro n x (Assigned e) us d = (refl, alone (name x) us d)
local_intro n x (Stored e) us d = absurd d.second
local_intro n x (StoredAt i e) us d = (
  refl,
  record {
    front = d.front;
    back = d.back;
    parts = d.parts;
    first = spelled_path
        (true, record { root = x; steps = [] }) d.front d.first;
    second = d.second;
  },
)
local_intro n x (Called gs es) us d = (refl, call_ended None x gs es us (no_receiver x us (alone (name x) us d)))

this_intro : (n : ℕ) (x : NameAt) (t : Tailed) (us : Tokens)
    → (spelled (false, record { root = x; steps = [] }) ⨾ tail front.This t) us
    → stmt n (x.at, action_of (record { root = x; steps = [] }) t) us
this_intro n x (Assigned e) us d = absurd d.second
this_intro n x (Stored e) us d = absurd d.second
this_intro n x (StoredAt i e) us d = (
  refl,
  record {
    front = d.front;
    back = d.back;
    parts = d.parts;
    first = spelled_path
        (false, record { root = x; steps = [] }) d.front d.first;
    second = d.second;
  },
)
this_intro n x (Called gs es) us d = absurd d.second

some_steps : (x : NameAt) (xs : List NameAt) → x ∷ xs ≡ [] → ⊥
some_steps x xs e = cc

member_intro : (n : ℕ) (root x : NameAt) (xs : List NameAt) (t : Tailed) (us : Tokens)
    → (path (record { root = root; steps = x ∷ xs }) ⨾ tail front.Member t) us
    → stmt n (root.at, action_of (record { root = root; steps = x ∷ xs }) t) us
member_intro n root x xs (Assigned e) us d = absurd d.second
member_intro n root x xs (Stored e) us d = (refl, some_steps x xs, d)
member_intro n root x xs (StoredAt i e) us d = (refl, d)
member_intro n root x xs (Called gs es) us d =
    (refl, call_ended (receiver_of root (x ∷ xs)) (last root (x ∷ xs)) gs es us (path_call root x xs us d))

as_path : (t : Tailed) (b : Bool) (p : Path) (f : Front) (us : Tokens) → (spelled (b, p) ⨾ tail f t) us
    → (path p ⨾ tail f t) us
as_path t b p f us d = record {
  front = d.front;
  back = d.back;
  parts = d.parts;
  first = spelled_path
      (b, p) d.front d.first;
  second = d.second;
}

led_intro : (n : ℕ) (b : Bool) (root : NameAt) (steps : List NameAt) (t : Tailed) (us : Tokens)
    → led ((b, record { root = root; steps = steps }), t) us
    → stmt n (root.at, action_of (record { root = root; steps = steps }) t) us
led_intro n true root [] t us d = local_intro n root t us d
led_intro n false root [] t us d = this_intro n root t us d
led_intro n true root (x ∷ xs) t us d = member_intro n root x xs t us
    (as_path t true (record { root = root; steps = x ∷ xs }) front.Member us d)
led_intro n false root (x ∷ xs) t us d = member_intro n root x xs t us
    (as_path t false (record { root = root; steps = x ∷ xs }) front.Member us d)

-- ---- from a statement to a path and a tail

member_cases_of : (at : Spot) (p : Path) (t : Tailed) (a : Action) (us : Tokens) → p.root.at ≡ at → (p.steps ≡ [] → ⊥)
    → a ≡ action_of p t → (path p ⨾ tail front.Member t) us → (q : (Bool × Path) × Tailed) × ((at, a) ≡ led_tree q)
    × led q us
member_cases_of at p t a us e some is d =
    let s = path_by p d.front d.first in
    let P : Front → Type 0 = λ f. tail f t d.back in (
      ((s.0, p), t),
      ap (λ l. (l, a)) (sym e) ∙ ap (λ b. (p.root.at, b)) is,
      record {
        front = d.front;
        back = d.back;
        parts = d.parts;
        first = s.1;
        second =
            subst P (sym (member_of s.0 p.steps some)) d.second;
      },
    )

call_is : (on : Option Path) (m : NameAt) (gs : List NameAt) (es : List Expression)
    → record { on = on; method = m; groups = gs; args = es } ≡ invoked (joined on m) (gs, es)
call_is None m gs es = refl
call_is (Some p) m gs es = invoked_some p.root m (p.steps ++ m ∷ []) p.steps gs es refl

call_cases_of : (at : Spot) (on : Option Path) (m : NameAt) (gs : List NameAt) (es : List Expression) (us : Tokens)
    → spot_or m.at on ≡ at → (receiver on ⨾ name m ⨾ call_rest (gs, es)) us →
    (q : (Bool × Path) × Tailed) × ((at, Calls (record { on = on; method = m; groups = gs; args = es })) ≡ led_tree q)
    × led q us
call_cases_of at None m gs es us e d = (
  ((true, record { root = m; steps = [] }), Called gs es),
  ap (λ l. (l, Calls (record { on = None; method = m; groups = gs; args = es }))) (sym e),
  record {
    front = d.second.front;
    back = d.second.back;
    parts = d.parts ∙ ap (λ l. l ++ d.back) d.first ∙ d.second.parts;
    first = record {
      front = d.second.front;
      back = [];
      parts = sym (append-nil d.second.front);
      first =
          d.second.first;
      second = refl;
    };
    second = d.second.second;
  },
)
call_cases_of at (Some p) m gs es us e d =
    member_cases_of at (joined (Some p) m) (Called gs es)
    (Calls (record { on = Some p; method = m; groups = gs; args = es })) us e (snoc_some m p.steps)
    (ap Calls (call_is (Some p) m gs es)) (call_path (Some p) m us d)

led_cases : (n : ℕ) (at : Spot) (a : Action) (us : Tokens) → is_led a ≡ true → statement n at a us
    → (q : (Bool × Path) × Tailed) × ((at, a) ≡ led_tree q) × led q us
led_cases n at (Assigns x e) us i d = (
  ((true, record { root = x; steps = [] }), Assigned e),
  ap (λ l. (l, Assigns x e)) (sym d.0),
  record {
    front = d.1.front;
    back = d.1.back;
    parts = d.1.parts;
    first =
        record { front = d.1.front; back = []; parts = sym (append-nil d.1.front); first = d.1.first; second = refl };
    second = d.1.second;
  },
)
led_cases n at (Stores p e) us i d = member_cases_of at p (Stored e) (Stores p e) us d.0 d.1 refl d.2
led_cases n at (StoresAt p j e) us i d =
    let s = path_by p d.1.front d.1.first in (
      ((s.0, p), StoredAt j e),
      ap (λ l. (l, StoresAt p j e)) (sym d.0),
      record {
        front = d.1.front;
        back = d.1.back;
        parts = d.1.parts;
        first = s.1;
        second = at_index
            (front_of s.0 p) j e d.1.back d.1.second;
      },
    )
led_cases n at (Calls c) us i d = call_cases_of at c.on c.method c.groups c.args us d.0 (ended_call c us d.1)
led_cases n at (Declares t x e) us i d = cc
led_cases n at (Chooses e k b) us i d = cc
led_cases n at (ChoosesElse e k b m c) us i d = cc
led_cases n at (Repeats e k b) us i d = cc
led_cases n at (Groups g) us i d = cc
led_cases n at (Splits gs k b) us i d = cc
led_cases n at (Locks g k b) us i d = cc
led_cases n at (Freezes x) us i d = cc
led_cases n at (Shares x g) us i d = cc
led_cases n at (Prints e) us i d = cc
led_cases n at (PrintsText s) us i d = cc
led_cases n at (Asserts e) us i d = cc
led_cases n at (Returns e) us i d = cc

tail_keeps : (levels : ℕ) (l : Limit) (p : Path) (t : Tailed) → KeepsTail l t → KeepsIn l levels (action_of p t)
tail_keeps levels l p (Assigned e) v = v
tail_keeps levels l p (Stored e) v = v
tail_keeps levels l p (StoredAt i e) v = v
tail_keeps levels l p (Called gs es) v = v

keeps_tail : (levels : ℕ) (l : Limit) (p : Path) (t : Tailed) → KeepsIn l levels (action_of p t) → KeepsTail l t
keeps_tail levels l p (Assigned e) v = v
keeps_tail levels l p (Stored e) v = v
keeps_tail levels l p (StoredAt i e) v = v
keeps_tail levels l p (Called gs es) v = v

led_formed : (n : ℕ) (y : Spot × Action) (us r ts : Tokens) → stmt n y us → head (us ++ r) ≡ head ts
    → IsRoot (head ts) → is_led y.1 ≡ true
led_formed n y us r ts d h (inl i) = at_name (head ts) refl i
  where
    at_name : (o : Option Lexeme) → o ≡ head ts → IsName o → is_led y.1 ≡ true
    at_name None e i = absurd i
    at_name (Some t) e i = let P : Option Lexeme → Type 0 = Is (tok.Name i.0) in formed (tok.Name i.0) n y us r ts d h
        (subst P e i.1)
led_formed n y us r ts d h (inr i) = formed (tok.Word word.This) n y us r ts d h i

pub led_along : (n levels : ℕ) (ts : Tokens) → IsRoot (head ts)
    → Along (stmt n) led (KeepsStmt levels) led_limit ts led_tree
led_along n levels ts i = record {
  intro = λ q us d. led_intro n q.0.0 q.0.1.root q.0.1.steps q.1 us d;
  cases = λ y us r d h. led_cases n y.0 y.1 us (led_formed n y us r ts d h i) d;
  to = λ q us d l v. tail_keeps levels l q.0.1 q.1 v.1;
  from = λ q us d l v. (tt, keeps_tail levels l q.0.1 q.1 v);
}

pub led_first : (b : Bool) {ts : Tokens} {e : Fail} → Named b (head ts)
    → Failed path Free (Isnt (tok.Sign sign.Dot)) ts e → Failed led led_limit Always ts e
led_first b n f = failed_by (λ why left s. after_first {D = spelled} {E = tailed} tail_limit led_links has_tails s)
    (failed_spelled b n f)

pub led_second : (b : Bool) {f : Front} {p : Path} {ts rest : Tokens} {e : Fail} → Named b (head ts)
    → Took path Free (Isnt (tok.Sign sign.Dot)) ts p rest → f ≡ front_of b p → Failed (tail f) KeepsTail Always rest e
    → Failed led led_limit Always ts e
led_second b {f} {p} {ts} {rest} {e} n t is s =
    let P : Front → Type 0 = λ g. Failed (tail g) KeepsTail Always rest e in
    failed_by (λ why left u. after_second {D = spelled} {E = tailed} tail_limit led_links (took_spelled b n t) u)
    (subst P is s)

pub led_took : (b : Bool) {f : Front} {p : Path} {ts rest rest' : Tokens} {x : Tailed} → Named b (head ts)
    → Took path Free (Isnt (tok.Sign sign.Dot)) ts p rest → f ≡ front_of b p
    → Took (tail f) KeepsTail Always rest x rest' → Took led led_limit Always ts ((b, p), x) rest'
led_took b {f} {p} {ts} {rest} {rest'} {x} n t is s =
    let P : Front → Type 0 = λ g. Took (tail g) KeepsTail Always rest x rest' in
    took_after {D = spelled} {E = tailed} tail_limit led_links (took_spelled b n t) (subst P is s)
