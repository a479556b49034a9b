-- Blocks, and the statements that have one.
use Rattle.std.proofs.Common.{◌≡◌, ℕ, ◌+◌, ◌-◌, ◌≤◌, ◌++◌, List, [], ◌∷◌, ◌⊎◌, inl, inr, Option, Some, None, refl}
use Rattle.std.proofs.Common.{sym, ap, ◌∙◌, append-nil, subst, arith}
use Rattle.ae_text.specs.declared.refusal.Spot.{Spot}
use Rattle.ae_text.specs.declared.token.Keyword.TheVariants as word
use Rattle.ae_text.specs.declared.token.Sign.TheVariants as sign
use Rattle.ae_tree.specs.declared.lexeme.Lexeme.{Lexeme}
use Rattle.ae_tree.specs.declared.lexeme.Lexical.{Lexical}
use Rattle.ae_tree.specs.declared.lexeme.Lexical.TheVariants as tok
use Rattle.ae_tree.specs.declared.limits.Limit.{Limit}
use Rattle.ae_tree.specs.declared.limits.Limit.TheVariants as limit
use Rattle.ae_tree.specs.declared.tree.NameAt.{NameAt}
use Rattle.ae_tree.specs.Plain.{Expression, Lines, End}
use Rattle.ae_tree.specs.Plain.{Action, Chooses, ChoosesElse, Repeats, Splits, Locks}
use Rattle.ae_tree.specs.Grammar.{Tokens, ◌⨾◌, one_at, name, separated, whole_expression, statement, statements}
use Rattle.ae_tree.specs.Grammar.{opened_in}
use Rattle.ae_tree.specs.Limits.{KeepsDepth, KeepsIn, IsFew, Opens, KeepsBlock}
use Rattle.ae_reading.specs.declared.fail.Fail.{Fail}
use Rattle.ae_reading.specs.Reads.{head, Always, Free, Is, Isnt, IsWithinAll, Took, Failed, Token}
use Rattle.ae_statements.proofs.from_reading.ReadsLemmas.{AreKnown-append, Lang, Bound, Follow, Links, Both, Limits}
use Rattle.ae_statements.proofs.from_reading.ReadsLemmas.{Pair, Has, Along, NoneAt, took_as, failed_as, failed_by}
use Rattle.ae_statements.proofs.from_reading.ReadsLemmas.{has_both, has_name, at_once, free, first, second, both}
use Rattle.ae_statements.proofs.from_reading.ReadsLemmas.{io_name, took_before, failed_before, After, AfterLinks}
use Rattle.ae_statements.proofs.from_reading.ReadsLemmas.{HasEach, took_after, after_first, after_second}
use Rattle.ae_statements.proofs.from_reading.Parts.{Optional, took_absent, took_present, failed_present}
use Rattle.ae_statements.proofs.from_reading.Begins.{opens_mark, opens_first, opens_other, is_isnt}
use Rattle.ae_expressions.specs.Ends.{Ends}
use Rattle.ae_statements.specs.Productions.{stmt, KeepsStmt, NoElse, numbered_block, KeepsBraced, otherwise, Closes}
use Rattle.ae_statements.proofs.ShapeLemmas.{Pre, Suf, Lets, took_pre, pre_first, pre_second, has_pre, took_suf}
use Rattle.ae_statements.proofs.ShapeLemmas.{suf_first, suf_second, has_suf, has_whole, begins_lets, sign_ends}
use Rattle.ae_statements.proofs.FormLemmas.{Formed, formed}
use Rattle.ae_statements.proofs.SimpleLemmas.{simple_took, simple_failed}

-- ---- blocks

abbrev pub opening : Lexical
opening = tok.Sign sign.OpenBrace

abbrev pub closing : Lexical
closing = tok.Sign sign.CloseBrace

abbrev pub KeepsLines : ℕ → Bound Lines
KeepsLines levels l b = KeepsBlock l levels b

abbrev pub Unbraced : ℕ → Lang Lines
Unbraced n = Pre opening (Suf (statements (n + 1)) closing)

opens_some : (l : Limit) (n : ℕ) → 1 ≤ n → Opens l n
opens_some limit.Statements n some = tt
opens_some limit.Levels n some = omega (arith, some)
opens_some limit.Depth n some = tt
opens_some limit.Params n some = tt

braced_along : (n levels : ℕ) (ts : Tokens) → 1 ≤ levels → Along (numbered_block n) (Unbraced n) (KeepsBraced levels)
    (KeepsLines (levels - 1)) ts (λ b. b)
braced_along n levels ts some = record {
  intro = λ q us d. d;
  cases = λ y us r d h. (y, refl, d);
  to = λ q us d l v. (opens_some l levels some, v.0, v.1);
  from = λ q us d l v. (v.1, v.2);
}

pub none_few : (l : Limit) → IsFew l End
none_few limit.Statements = omega arith
none_few limit.Levels = tt
none_few limit.Depth = tt
none_few limit.Params = tt

pub none_keep : (levels : ℕ) → IsWithinAll (KeepsLines levels) End
none_keep levels l = (none_few l, tt)

pub has_lines : (n levels : ℕ) → Has (statements n) (KeepsLines levels)
has_lines n levels = record { tree = End; tokens = []; is = refl; known = tt; within = none_keep levels }

has_closed : (n levels : ℕ) → Has (Suf (statements (n + 1)) closing) (KeepsLines levels)
has_closed n levels = has_suf closing (statements (n + 1)) tt (has_lines (n + 1) levels)

pub has_braced : (n levels : ℕ) → 1 ≤ levels → Has (numbered_block n) (KeepsBraced levels)
has_braced n levels some =
    let x = has_pre opening (Suf (statements (n + 1)) closing) tt (has_closed n (levels - 1)) in
    record {
      tree = x.tree;
      tokens = x.tokens;
      is = x.is;
      known = x.known;
      within =
          λ l. (opens_some l levels some, (x.within l).0, (x.within l).1);
    }

pub brace_closes : Lets closing Closes
brace_closes t e = inl e

pub braced_took : (n levels : ℕ) {ts mid behind rest : Tokens} {at end : Spot} {b : Lines} → 1 ≤ levels →
    Took (Token opening) Free Always ts at mid
    → Took (statements (n + 1)) (KeepsLines (levels - 1)) Closes mid b behind
    → Took (Token closing) Free Always behind end rest →
    Took (numbered_block n) (KeepsBraced levels) Always ts b rest
braced_took n levels {ts} some t u v = took_as (numbered_block n) (Unbraced n) (λ b. b)
    (braced_along n levels ts some)
    (took_pre (Suf (statements (n + 1)) closing) t (took_suf (statements (n + 1)) brace_closes u v))

-- there is no brace
pub braced_first : (n levels : ℕ) {ts : Tokens} {e : Fail} → 1 ≤ levels → Failed (Token opening) Free Always ts e
    → Failed (numbered_block n) (KeepsBraced levels) Always ts e
braced_first n levels {ts} some f = failed_as (numbered_block n) (Unbraced n) (λ b. b) (braced_along n levels ts some)
    (pre_first (Suf (statements (n + 1)) closing) (has_closed n (levels - 1)) f)

-- its statements fail
pub braced_inner : (n levels : ℕ) {ts mid : Tokens} {at : Spot} {e : Fail} → 1 ≤ levels →
    Took (Token opening) Free Always ts at mid → Failed (statements (n + 1)) (KeepsLines (levels - 1)) Closes mid e
    → Failed (numbered_block n) (KeepsBraced levels) Always ts e
braced_inner n levels {ts} some t f = failed_as (numbered_block n) (Unbraced n) (λ b. b)
    (braced_along n levels ts some)
    (pre_second (Suf (statements (n + 1)) closing) t (suf_first (statements (n + 1)) brace_closes tt f))

-- it is not closed
pub braced_last : (n levels : ℕ) {ts mid behind : Tokens} {at : Spot} {b : Lines} {e : Fail} → 1 ≤ levels →
    Took (Token opening) Free Always ts at mid
    → Took (statements (n + 1)) (KeepsLines (levels - 1)) Closes mid b behind
    → Failed (Token closing) Free Always behind e →
    Failed (numbered_block n) (KeepsBraced levels) Always ts e
braced_last n levels {ts} some t u f = failed_as (numbered_block n) (Unbraced n) (λ b. b)
    (braced_along n levels ts some)
    (pre_second (Suf (statements (n + 1)) closing) t (suf_second (statements (n + 1)) brace_closes u f))

-- ---- a word, a part, and a block

-- a block may follow what lets a brace follow
brace_link : (F : Follow) (n : ℕ) → Lets opening F → Links (numbered_block n) Always F
brace_link F n lets y us r d f = begins_lets F us r lets (opens_mark us r d)

abbrev pub Blocked : {A : Type 0} → Lexical → Lang A → ℕ → Lang (Spot × (A × Lines))
Blocked w E n = Both (Token w) (Both E (numbered_block n))

abbrev pub KeepsBlocked : {A : Type 0} → Bound A → ℕ → Bound (Spot × (A × Lines))
KeepsBlocked V levels = Pair Free (Pair V (KeepsBraced levels))

-- a statement with one block
pub record OneBlock {A : Type 0} (w : Lexical) (E : Lang A) (V : Bound A) (F : Follow) (n levels : ℕ) (ts : Tokens)
    (build : Spot × (A × Lines) → Spot × Action) : Type 0 where
  pub along : Along (stmt n) (Blocked w E n) (KeepsStmt levels) (KeepsBlocked V levels) ts build
  pub lets : Lets opening F
  pub has : Has E V
  pub some : 1 ≤ levels

has_behind : {A : Type 0} {w : Lexical} {E : Lang A} {V : Bound A} {F : Follow} {n levels : ℕ} {ts : Tokens}
    {build : Spot × (A × Lines) → Spot × Action} →
    OneBlock w E V F n levels ts build → Has (Both E (numbered_block n)) (Pair V (KeepsBraced levels))
has_behind {n = n} {levels} o = has_both o.has (has_braced n levels o.some)

pub one_took : {A : Type 0} {w : Lexical} {E : Lang A} {V : Bound A} {F : Follow} {n levels : ℕ}
    {ts mid behind rest : Tokens} {at : Spot} {x : A} {b : Lines} (build : Spot × (A × Lines) → Spot × Action) →
    OneBlock w E V F n levels ts build → Took (Token w) Free Always ts at mid → Took E V F mid x behind
    → Took (numbered_block n) (KeepsBraced levels) Always behind b rest →
    Took (stmt n) (KeepsStmt levels) NoElse ts (build (at, (x, b))) rest
one_took {E = E} {F = F} {n} build o t u v = simple_took build o.along
    (both (free (Both E (numbered_block n)) Always) t (both (brace_link F n o.lets) u v))

pub one_first : {A : Type 0} {w : Lexical} {E : Lang A} {V : Bound A} {F : Follow} {n levels : ℕ} {ts : Tokens}
    {e : Fail} (build : Spot × (A × Lines) → Spot × Action) →
    OneBlock w E V F n levels ts build → Failed (Token w) Free Always ts e
    → Failed (stmt n) (KeepsStmt levels) NoElse ts e
one_first {E = E} {n = n} build o f = simple_failed build o.along
    (first (free (Both E (numbered_block n)) Always) (has_behind o) f)

pub one_second : {A : Type 0} {w : Lexical} {E : Lang A} {V : Bound A} {F : Follow} {n levels : ℕ} {ts mid : Tokens}
    {at : Spot} {e : Fail} (build : Spot × (A × Lines) → Spot × Action) →
    OneBlock w E V F n levels ts build → Took (Token w) Free Always ts at mid → Failed E V F mid e
    → Failed (stmt n) (KeepsStmt levels) NoElse ts e
one_second {E = E} {F = F} {n} {levels} build o t f = simple_failed build o.along
    (second (free (Both E (numbered_block n)) Always) t
    (first (brace_link F n o.lets) (has_braced n levels o.some) f))

pub one_third : {A : Type 0} {w : Lexical} {E : Lang A} {V : Bound A} {F : Follow} {n levels : ℕ}
    {ts mid behind : Tokens} {at : Spot} {x : A} {e : Fail} (build : Spot × (A × Lines) → Spot × Action) →
    OneBlock w E V F n levels ts build → Took (Token w) Free Always ts at mid → Took E V F mid x behind
    → Failed (numbered_block n) (KeepsBraced levels) Always behind e →
    Failed (stmt n) (KeepsStmt levels) NoElse ts e
one_third {E = E} {F = F} {n} build o t u f = simple_failed build o.along
    (second (free (Both E (numbered_block n)) Always) t (second (brace_link F n o.lets) u f))

-- ---- loops, splits and locks

abbrev pub looped : ℕ → Spot × (Expression × Lines) → Spot × Action
looped n q = (q.0, Repeats q.1.0 n q.1.1)

looped_cases : (n : ℕ) (y : Spot × Action) (us : Tokens) → stmt n y us → Formed (tok.Word word.While) y.1
    → (q : Spot × (Expression × Lines)) × (y ≡ looped n q) × Blocked (tok.Word word.While) whole_expression n q us
looped_cases n y us d f =
    let P : Action → Type 0 = λ a. statement n y.0 a us in
    let c : statement n y.0 (Repeats f.0 f.1 f.2) us = subst P f.3 d in
    ((y.0, (f.0, f.2)), ap (λ a. (y.0, a)) f.3 ∙ ap (λ m. (y.0, Repeats f.0 m f.2)) c.0, c.1)

pub loops : (n levels : ℕ) (ts : Tokens) → 1 ≤ levels → Is (tok.Word word.While) (head ts)
    → OneBlock (tok.Word word.While) whole_expression KeepsDepth (Ends 0) n levels ts (looped n)
loops n levels ts some is = record {
  along = record {
    intro = λ q us d. (refl, d);
    cases = λ y us r d h. looped_cases n y us d (formed (tok.Word word.While) n y us r ts d h is);
    to = λ q us d l v. (v.1.0, v.1.1.0, v.1.1.1, v.1.1.2);
    from = λ q us d l v. (tt, (v.0, (v.1, v.2, v.3)));
  };
  lets = sign_ends sign.OpenBrace refl;
  has = has_whole;
  some = some;
}

abbrev pub divided : ℕ → Spot × (List NameAt × Lines) → Spot × Action
divided n q = (q.0, Splits q.1.0 n q.1.1)

divided_cases : (n : ℕ) (y : Spot × Action) (us : Tokens) → stmt n y us → Formed (tok.Word word.Split) y.1
    → (q : Spot × (List NameAt × Lines)) × (y ≡ divided n q) × Blocked (tok.Word word.Split) (separated name) n q us
divided_cases n y us d f =
    let P : Action → Type 0 = λ a. statement n y.0 a us in
    let c : statement n y.0 (Splits f.0 f.1 f.2) us = subst P f.3 d in
    ((y.0, (f.0, f.2)), ap (λ a. (y.0, a)) f.3 ∙ ap (λ m. (y.0, Splits f.0 m f.2)) c.0, c.1)

pub has_names : Has (separated name) Free
has_names = record {
  tree = io_name ∷ [];
  tokens = at_once (tok.Name io_name.name);
  is = record { front = at_once (tok.Name io_name.name); back = []; parts = refl; first = refl; second = refl };
  known = (refl, tt);
  within = λ l. tt;
}

pub brace_no_comma : (t : Lexeme) → t.kind ≡ opening → t.kind ≡ tok.Sign sign.Comma → ⊥
brace_no_comma t e i = let same : opening ≡ tok.Sign sign.Comma = sym e ∙ i in cc

pub splits : (n levels : ℕ) (ts : Tokens) → 1 ≤ levels → Is (tok.Word word.Split) (head ts)
    → OneBlock (tok.Word word.Split) (separated name) Free (Isnt (tok.Sign sign.Comma)) n levels ts (divided n)
splits n levels ts some is = record {
  along = record {
    intro = λ q us d. (refl, d);
    cases = λ y us r d h. divided_cases n y us d (formed (tok.Word word.Split) n y us r ts d h is);
    to = λ q us d l v. v.1.1;
    from = λ q us d l v. (tt, (tt, v));
  };
  lets = brace_no_comma;
  has = has_names;
  some = some;
}

abbrev pub locked : ℕ → Spot × (NameAt × Lines) → Spot × Action
locked n q = (q.0, Locks q.1.0 n q.1.1)

locked_cases : (n : ℕ) (y : Spot × Action) (us : Tokens) → stmt n y us → Formed (tok.Word word.Atomic) y.1
    → (q : Spot × (NameAt × Lines)) × (y ≡ locked n q) × Blocked (tok.Word word.Atomic) name n q us
locked_cases n y us d f =
    let P : Action → Type 0 = λ a. statement n y.0 a us in
    let c : statement n y.0 (Locks f.0 f.1 f.2) us = subst P f.3 d in
    ((y.0, (f.0, f.2)), ap (λ a. (y.0, a)) f.3 ∙ ap (λ m. (y.0, Locks f.0 m f.2)) c.0, c.1)

pub locks : (n levels : ℕ) (ts : Tokens) → 1 ≤ levels → Is (tok.Word word.Atomic) (head ts)
    → OneBlock (tok.Word word.Atomic) name Free Always n levels ts (locked n)
locks n levels ts some is = record {
  along = record {
    intro = λ q us d. (refl, d);
    cases = λ y us r d h. locked_cases n y us d (formed (tok.Word word.Atomic) n y us r ts d h is);
    to = λ q us d l v. v.1.1;
    from = λ q us d l v. (tt, (tt, v));
  };
  lets = λ t e. tt;
  has = has_name;
  some = some;
}

-- ---- choices

-- the second block of a choice, where there is one; it is block m
abbrev pub other : ℕ → Option Lines → Tokens → Type 0
other m None us = us ≡ []
other m (Some c) us = otherwise m c us

abbrev pub KeepsOther : ℕ → Limit → Option Lines → Type 0
KeepsOther levels l None = Unit {0}
KeepsOther levels l (Some c) = KeepsBraced levels l c

-- the number of the block behind this one
abbrev pub behind : ℕ → Lines → ℕ
behind n b = n + 1 + opened_in b

abbrev pub Two : Type 0
Two = Lines × Option Lines

abbrev pub two : ℕ → Lang Two
two n = After (numbered_block n) (λ b. other (behind n b))

abbrev pub KeepsTwo : ℕ → Bound Two
KeepsTwo levels = Limits (KeepsBraced levels) (λ l b. KeepsOther levels l)

abbrev pub Choice : Type 0
Choice = Spot × (Expression × Two)

abbrev pub choosing : ℕ → Lang Choice
choosing n = Both (Token (tok.Word word.If)) (Both whole_expression (two n))

abbrev pub KeepsChoice : ℕ → Bound Choice
KeepsChoice levels = Pair Free (Pair KeepsDepth (KeepsTwo levels))

abbrev pub chosen_with : ℕ → Expression → Lines → Option Lines → Action
chosen_with n e b None = Chooses e n b
chosen_with n e b (Some c) = ChoosesElse e n b (behind n b) c

abbrev pub chosen : ℕ → Choice → Spot × Action
chosen n q = (q.0, chosen_with n q.1.0 q.1.1.0 q.1.1.1)

chosen_intro : (n : ℕ) (at : Spot) (e : Expression) (b : Lines) (o : Option Lines) (us : Tokens)
    → choosing n (at, (e, (b, o))) us → statement n at (chosen_with n e b o) us
chosen_intro n at e b None us d = (
  refl,
  record {
    front = d.front;
    back = d.back;
    parts = d.parts;
    first = d.first;
    second = record {
      front = d.second.front;
      back = d.second.back;
      parts = d.second.parts;
      first = d.second.first;
      second = (let s = d.second.second in let P : Tokens → Type 0 =
          λ l. numbered_block n b l in subst P (sym (s.parts ∙ ap (λ l. s.front ++ l) s.second ∙ append-nil s.front))
          s.first);
    };
  },
)
chosen_intro n at e b (Some c) us d = (refl, refl, d)

alone : (n : ℕ) (at : Spot) (e : Expression) (b : Lines) (us : Tokens)
    → (one_at (tok.Word word.If) at ⨾ whole_expression e ⨾ numbered_block n b) us → choosing n (at, (e, (b, None))) us
alone n at e b us d = record {
  front = d.front;
  back = d.back;
  parts = d.parts;
  first = d.first;
  second = record {
    front = d.second.front;
    back = d.second.back;
    parts = d.second.parts;
    first = d.second.first;
    second = record {
      front = d.second.back;
      back = [];
      parts = sym (append-nil d.second.back);
      first =
          d.second.second;
      second = refl;
    };
  };
}

chosen_cases : (n : ℕ) (y : Spot × Action) (us : Tokens) → stmt n y us → Formed (tok.Word word.If) y.1
    → (q : Choice) × (y ≡ chosen n q) × choosing n q us
chosen_cases n y us d (inl f) =
    let P : Action → Type 0 = λ a. statement n y.0 a us in
    let c : statement n y.0 (Chooses f.0 f.1 f.2) us = subst P f.3 d in (
      (y.0, (f.0, (f.2, None))),
      ap (λ a. (y.0, a)) f.3 ∙ ap (λ m. (y.0, Chooses f.0 m f.2)) c.0,
      alone n y.0 f.0 f.2 us c.1,
    )
chosen_cases n y us d (inr f) =
    let P : Action → Type 0 = λ a. statement n y.0 a us in
    let c : statement n y.0 (ChoosesElse f.0 f.1 f.2 f.3 f.4) us = subst P f.5 d in
    let Q : ℕ → Type 0 = λ m. (one_at (tok.Word word.If) y.0 ⨾ whole_expression f.0 ⨾ numbered_block n f.2
    ⨾ otherwise m f.4) us in (
      (y.0, (f.0, (f.2, Some f.4))),
      ap (λ a. (y.0, a)) f.5 ∙ ap (λ m. (y.0, ChoosesElse f.0 m f.2 f.3 f.4)) c.0
          ∙ ap (λ m. (y.0, ChoosesElse f.0 n f.2 m f.4)) c.1,
      subst Q c.1 c.2,
    )

chosen_to : (n levels : ℕ) (e : Expression) (b : Lines) (o : Option Lines) (l : Limit) → KeepsDepth l e
    → KeepsBraced levels l b → KeepsOther levels l o → KeepsIn l levels (chosen_with n e b o)
chosen_to n levels e b None l k v w = (k, v.0, v.1, v.2)
chosen_to n levels e b (Some c) l k v w = (k, v.0, (v.1, v.2), w.1, w.2)

chosen_from : (n levels : ℕ) (at : Spot) (e : Expression) (b : Lines) (o : Option Lines) (l : Limit)
    → KeepsIn l levels (chosen_with n e b o) → KeepsChoice levels l (at, (e, (b, o)))
chosen_from n levels at e b None l v = (tt, (v.0, ((v.1, v.2, v.3), tt)))
chosen_from n levels at e b (Some c) l v = (tt, (v.0, ((v.1, v.2.0, v.2.1), (v.1, v.3, v.4))))

choice_along : (n levels : ℕ) (ts : Tokens) → Is (tok.Word word.If) (head ts)
    → Along (stmt n) (choosing n) (KeepsStmt levels) (KeepsChoice levels) ts (chosen n)
choice_along n levels ts is = record {
  intro = λ q us d. chosen_intro n q.0 q.1.0 q.1.1.0 q.1.1.1 us d;
  cases = λ y us r d h. chosen_cases n y us d (formed (tok.Word word.If) n y us r ts d h is);
  to = λ q us d l v. chosen_to n levels q.1.0 q.1.1.0 q.1.1.1 l v.1.0 v.1.1.0 v.1.1.1;
  from = λ q us d l v. chosen_from n levels q.0 q.1.0 q.1.1.0 q.1.1.1 l v;
}

other_cases : (m : ℕ) (y : Option Lines) (us : Tokens) → other m y us → ((y ≡ None) × (us ≡ []))
    ⊎ ((q : Lines) × (y ≡ Some q) × otherwise m q us)
other_cases m None us d = inl (refl, d)
other_cases m (Some c) us d = inr (c, refl, d)

other_optional : (m levels : ℕ) → Optional (other m) (otherwise m) (KeepsOther levels) (KeepsBraced levels) None Some
other_optional m levels = record {
  absent = refl;
  present = λ q us d. d;
  cases = other_cases m;
  none_within = λ l. tt;
  to = λ q us d l v. v;
  from = λ q us d l v. v;
}

no_otherwise : (m : ℕ) (ts : Tokens) → (Is (tok.Word word.Else) (head ts) → ⊥) → NoneAt (otherwise m) ts
no_otherwise m ts none y us r d h = opens_other us r ts (opens_mark us r d) h none

-- no second block comes
pub other_absent : (m levels : ℕ) {ts : Tokens} → (Is (tok.Word word.Else) (head ts) → ⊥)
    → Took (other m) (KeepsOther levels) NoElse ts None ts
other_absent m levels {ts} none = took_absent NoElse (other_optional m levels) (no_otherwise m ts none)

pub other_took : (m levels : ℕ) {ts rest : Tokens} {c : Lines} → Is (tok.Word word.Else) (head ts)
    → Took (otherwise m) (KeepsBraced levels) Always ts c rest
    → Took (other m) (KeepsOther levels) NoElse ts (Some c) rest
other_took m levels {ts} is t = took_present (other_optional m levels)
    (λ f. is_isnt (tok.Word word.Else) (head ts) is f) (took_before {F = Always} {G = NoElse} (λ o f. tt) t)

pub other_failed : (m levels : ℕ) {ts : Tokens} {e : Fail} → Is (tok.Word word.Else) (head ts)
    → Failed (otherwise m) (KeepsBraced levels) Always ts e → Failed (other m) (KeepsOther levels) NoElse ts e
other_failed m levels {ts} is f = failed_present (other_optional m levels)
    (λ g. is_isnt (tok.Word word.Else) (head ts) is g) (failed_before {F = Always} {G = NoElse} (λ o f. tt) f)

other_links : (n : ℕ) → AfterLinks (λ b. other (behind n b)) NoElse Always
other_links n x y us r d f = tt

abbrev KeepsSecond : ℕ → Limit → Lines → Option Lines → Type 0
KeepsSecond levels l b = KeepsOther levels l

has_other : (n levels : ℕ) → HasEach (λ b. other (behind n b)) (KeepsBraced levels) (KeepsSecond levels)
has_other n levels = record {
  tree = λ b. None;
  tokens = λ b. [];
  is = λ b. refl;
  known = λ b. tt;
  within =
      λ l b w. tt;
}

pub two_took : (n levels : ℕ) {ts mid rest : Tokens} {b : Lines} {o : Option Lines} →
    Took (numbered_block n) (KeepsBraced levels) Always ts b mid
    → Took (other (behind n b)) (KeepsOther levels) NoElse mid o rest
    → Took (two n) (KeepsTwo levels) NoElse ts (b, o) rest
two_took n levels t u = took_after (KeepsSecond levels) (other_links n) t u

pub two_first : (n levels : ℕ) {ts : Tokens} {e : Fail} → Failed (numbered_block n) (KeepsBraced levels) Always ts e
    → Failed (two n) (KeepsTwo levels) NoElse ts e
two_first n levels f = failed_by
    (λ why left s. after_first (KeepsSecond levels) (other_links n) (has_other n levels) s) f

pub two_second : (n levels : ℕ) {ts mid : Tokens} {b : Lines} {e : Fail} →
    Took (numbered_block n) (KeepsBraced levels) Always ts b mid
    → Failed (other (behind n b)) (KeepsOther levels) NoElse mid e → Failed (two n) (KeepsTwo levels) NoElse ts e
two_second n levels t f = failed_by (λ why left s. after_second (KeepsSecond levels) (other_links n) t s) f

two_links : (n : ℕ) → Links (two n) NoElse (Ends 0)
two_links n y us r d f = begins_lets (Ends 0) us r (sign_ends sign.OpenBrace refl)
    (opens_first us r d (opens_mark d.front (d.back ++ r) d.first))

has_two : (n levels : ℕ) → 1 ≤ levels → Has (two n) (KeepsTwo levels)
has_two n levels some =
    let x = has_braced n levels some in
    record {
      tree = (x.tree, None);
      tokens = x.tokens
          ++ [];
      is = record { front = x.tokens; back = []; parts = refl; first = x.is; second = refl };
      known =
          AreKnown-append x.tokens [] x.known tt;
      within = λ l. (x.within l, tt);
    }

pub choice_took : (n levels : ℕ) {ts mid behind rest : Tokens} {at : Spot} {e : Expression} {q : Two}
    → Is (tok.Word word.If) (head ts) →
    Took (Token (tok.Word word.If)) Free Always ts at mid → Took whole_expression KeepsDepth (Ends 0) mid e behind
    → Took (two n) (KeepsTwo levels) NoElse behind q rest →
    Took (stmt n) (KeepsStmt levels) NoElse ts (chosen n (at, (e, q))) rest
choice_took n levels {ts} is t u v = took_as (stmt n) (choosing n) (chosen n) (choice_along n levels ts is)
    (both (free (Both whole_expression (two n)) NoElse) t (both (two_links n) u v))

pub choice_first : (n levels : ℕ) {ts : Tokens} {e : Fail} → 1 ≤ levels → Is (tok.Word word.If) (head ts)
    → Failed (Token (tok.Word word.If)) Free Always ts e → Failed (stmt n) (KeepsStmt levels) NoElse ts e
choice_first n levels {ts} some is f = failed_as (stmt n) (choosing n) (chosen n) (choice_along n levels ts is)
    (first (free (Both whole_expression (two n)) NoElse) (has_both has_whole (has_two n levels some)) f)

pub choice_second : (n levels : ℕ) {ts mid : Tokens} {at : Spot} {e : Fail} → 1 ≤ levels
    → Is (tok.Word word.If) (head ts) →
    Took (Token (tok.Word word.If)) Free Always ts at mid → Failed whole_expression KeepsDepth (Ends 0) mid e
    → Failed (stmt n) (KeepsStmt levels) NoElse ts e
choice_second n levels {ts} some is t f = failed_as (stmt n) (choosing n) (chosen n) (choice_along n levels ts is)
    (second (free (Both whole_expression (two n)) NoElse) t (first (two_links n) (has_two n levels some) f))

pub choice_third : (n levels : ℕ) {ts mid behind : Tokens} {at : Spot} {x : Expression} {e : Fail}
    → Is (tok.Word word.If) (head ts) →
    Took (Token (tok.Word word.If)) Free Always ts at mid → Took whole_expression KeepsDepth (Ends 0) mid x behind
    → Failed (two n) (KeepsTwo levels) NoElse behind e →
    Failed (stmt n) (KeepsStmt levels) NoElse ts e
choice_third n levels {ts} is t u f = failed_as (stmt n) (choosing n) (chosen n) (choice_along n levels ts is)
    (second (free (Both whole_expression (two n)) NoElse) t (second (two_links n) u f))

-- ---- numbers

-- the number behind a statement that opens k blocks in its own
pub next_number : (m next opens k : ℕ) → opens ≡ 1 + k → next ≡ m + 1 + k → next ≡ m + opens
next_number m next opens k e f = omega (arith, e, f)

pub both_numbers : (m middle next opens j k : ℕ) → opens ≡ 1 + j + 1 + k → middle ≡ m + 1 + j → next ≡ middle + 1 + k
    → next ≡ m + opens
both_numbers m middle next opens j k e f g = omega (arith, e, f, g)

-- a second block with the number that was counted
pub other_took_at : (m levels middle : ℕ) {ts rest : Tokens} {c : Lines} → middle ≡ m
    → Is (tok.Word word.Else) (head ts) → Took (otherwise middle) (KeepsBraced levels) Always ts c rest
    → Took (other m) (KeepsOther levels) NoElse ts (Some c) rest
other_took_at m levels middle {ts} {rest} {c} e is t = let P : ℕ → Type 0 =
    λ k. Took (otherwise k) (KeepsBraced levels) Always ts c rest in other_took m levels is (subst P e t)

pub other_failed_at : (m levels middle : ℕ) {ts : Tokens} {e : Fail} → middle ≡ m → Is (tok.Word word.Else) (head ts)
    → Failed (otherwise middle) (KeepsBraced levels) Always ts e → Failed (other m) (KeepsOther levels) NoElse ts e
other_failed_at m levels middle {ts} {e} same is f = let P : ℕ → Type 0 =
    λ k. Failed (otherwise k) (KeepsBraced levels) Always ts e in other_failed m levels is (subst P same f)
