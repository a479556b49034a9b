-- Right sides that begin with a word of their own: `take` and `new`.
use Rattle.std.proofs.Common.{◌≡◌, ℕ, ◌++◌, List, [], ◌∷◌, length, inl, Option, refl, sym, ap, ◌∙◌, append_assoc}
use Rattle.std.proofs.Common.{append-nil, subst, Result, Err, Bor}
use Rattle.ae_text.specs.declared.refusal.Spot.{Spot}
use Rattle.ae_text.specs.declared.token.Keyword.TheVariants as word
use Rattle.ae_text.specs.declared.token.Sign.TheVariants as sign
use Rattle.ae_tree.specs.declared.lexeme.Lexeme.{Lexeme}
use Rattle.ae_tree.specs.declared.lexeme.Lexical.{Lexical}
use Rattle.ae_tree.specs.declared.lexeme.Lexical.TheVariants as tok
use Rattle.ae_tree.specs.declared.limits.Limit.{Limit}
use Rattle.ae_tree.specs.declared.tree.NameAt.{NameAt}
use Rattle.ae_tree.specs.declared.tree.Path.{Path}
use Rattle.ae_tree.specs.Plain.{Expression, Invocation, RightSide, Value, Taken, Zeros, Made, Returned}
use Rattle.ae_tree.specs.Grammar.{Tokens, ◌⨾◌, one_token, one_at, name, path_step, path, whole_expression}
use Rattle.ae_tree.specs.Grammar.{call_written, right_of_equals}
use Rattle.ae_tree.specs.Limits.{KeepsDepth, KeepsRight}
use Rattle.ae_tree.specs.Refused.{AreSpellable}
use Rattle.ae_reading.specs.declared.fail.Fail.{Fail}
use Rattle.ae_reading.specs.declared.fail.Fail.TheVariants.{Refused}
use Rattle.ae_reading.specs.declared.fail.Why.{Why}
use Rattle.ae_reading.specs.declared.fail.Why.TheVariants.{Unexpected, Over}
use Rattle.ae_reading.specs.Reads.{head, Always, Free, Is, Isnt, IsName, Took, Stopped, Failed, Beyond, Token, Reads}
use Rattle.ae_reading.specs.Reads.{itself}
use Rattle.ae_statements.proofs.from_reading.ReadsLemmas.{Lang, Both, Pair, Limits, Has, Along, AreKnown-append}
use Rattle.ae_statements.proofs.from_reading.ReadsLemmas.{lead_here, failed_by, took_as, stopped_as, nowhere}
use Rattle.ae_statements.proofs.from_reading.ReadsLemmas.{io_name, After, AfterLinks, HasEach, took_after}
use Rattle.ae_statements.proofs.from_reading.ReadsLemmas.{after_first, after_second}
use Rattle.ae_statements.proofs.from_reading.Runs.{each-append, each-one}
use Rattle.ae_statements.proofs.from_reading.Begins.{not_both}
use Rattle.ae_statements.specs.Productions.{with_semicolon, member, sized, filled, made_side, call_rest, KeepsCalled}
use Rattle.ae_statements.specs.Deciding.{IsPlainSide}
use Rattle.ae_statements.proofs.ShapeLemmas.{Lets, Pre, Suf, has_pre, has_suf, has_whole}
use Rattle.ae_statements.proofs.CallLemmas.{none_within}
use Rattle.ae_statements.proofs.UniqueRightSides.{joined, ints_are_no_name}
use Rattle.ae_statements.proofs.SideLemmas.{Dot, call_elim, path_plain}
use Rattle.ae_statements.proofs.SplitLemmas.{sign_at, io_at, closing, closing_known, called_none, pushed}
use Rattle.ae_statements.proofs.ReturnedLemmas.{counts_all}
use Rattle.ae_statements.proofs.ValueLemmas.{value_plain}

-- ---- sequences, grouped otherwise

pub to_right : {p q s : Tokens → Type 0} (us : Tokens) → ((p ⨾ q) ⨾ s) us → (p ⨾ (q ⨾ s)) us
to_right us d = record {
  front = d.first.front;
  back = d.first.back ++ d.back;
  parts = d.parts ∙ ap (λ l. l ++ d.back) d.first.parts ∙ append_assoc d.first.front d.first.back d.back;
  first = d.first.first;
  second = record { front = d.first.back; back = d.back; parts = refl; first = d.first.second; second = d.second };
}

pub to_left : {p q s : Tokens → Type 0} (us : Tokens) → (p ⨾ (q ⨾ s)) us → ((p ⨾ q) ⨾ s) us
to_left us d =
    let e = d.second in
    record {
      front = d.front ++ e.front;
      back = e.back;
      parts = d.parts ∙ ap (λ l. d.front ++ l) e.parts ∙ sym (append_assoc d.front e.front e.back);
      first = record { front = d.front; back = e.front; parts = refl; first = d.first; second = e.first };
      second = e.second;
    }

pub behind : {p q s : Tokens → Type 0} (us : Tokens) → ((vs : Tokens) → q vs → s vs) → (p ⨾ q) us → (p ⨾ s) us
behind us f d = record { front = d.front; back = d.back; parts = d.parts; first = d.first; second = f d.back d.second }

-- ---- paths with a step

io_step : path_step io_name (sign_at sign.Dot ∷ io_at ∷ [])
io_step = record {
  front = sign_at sign.Dot ∷ [];
  back = io_at ∷ [];
  parts = refl;
  first =
      (nowhere, refl);
  second = refl;
}

abbrev io_text : Tokens
io_text = sign_at sign.Dot ∷ io_at ∷ []

longer : (p : Path) (us vs : Tokens) → path p (us ++ vs) → member (pushed p io_name) (us ++ (vs ++ io_text))
longer p us vs d = (
  not_nil p.steps,
  record {
    front = d.front;
    back = d.back ++ io_text;
    parts = sym (append_assoc us vs io_text) ∙ ap (λ l. l ++ io_text) d.parts ∙ append_assoc d.front d.back io_text;
    first = d.first;
    second = each-append path_step p.steps (io_name ∷ []) d.back io_text d.second
        (each-one path_step io_name io_text io_step);
  },
)
  where
    not_nil : (xs : List NameAt) → xs ++ io_name ∷ [] ≡ [] → ⊥
    not_nil [] e = cc
    not_nil (x ∷ xs) e = cc

io_known : AreSpellable io_text
io_known = (tt, (refl, tt))

pub member_took : (ts rest : Tokens) (p : Path) → (p.steps ≡ [] → ⊥)
    → Took path Free (Isnt (tok.Sign sign.Dot)) ts p rest → Took member Free (Isnt (tok.Sign sign.Dot)) ts p rest
member_took ts rest p some t = record {
  taken = t.taken;
  whole = t.whole;
  derives = (some, t.derives);
  within = λ l. tt;
  no_end = t.no_end;
  only = λ y us r other d e h f. t.only y us r other d.1 e h f;
}

-- no step comes next
pub member_short : (ts rest : Tokens) (p : Path) → p.steps ≡ [] → Took path Free (Isnt (tok.Sign sign.Dot)) ts p rest
    → Stopped member Free (Isnt (tok.Sign sign.Dot)) ts Unexpected (length rest)
member_short ts rest p none t =
    let P : Tokens → Type 0 = path p in
    let goes : member (pushed p io_name) (t.taken ++ io_text) = longer p t.taken []
    (subst P (sym (append-nil t.taken)) t.derives) in
    record {
      before = t.taken;
      rest = rest;
      whole = t.whole;
      left_is = refl;
      tree = pushed p io_name;
      more = io_text;
      goes = goes;
      known = io_known;
      within = λ l. tt;
      lead = lead_here t.taken (pushed p io_name) io_text goes io_known (λ l. tt);
      no_end = t.no_end;
      stuck = λ y us r other d e h f w.
          let o = t.only y us r other d.1 e h f in
          d.0 (ap (λ (q : Path). q.steps) o.0 ∙ none);
      beyond = tt;
    }

pub member_refused : (ts rest : Tokens) (p : Path) (r : Result (Path × Bor Tokens) Fail)
    → r ≡ Err (Refused Unexpected (length rest)) → p.steps ≡ [] → Took path Free (Isnt (tok.Sign sign.Dot)) ts p rest
    → Reads itself member Free (Isnt (tok.Sign sign.Dot)) ts r
member_refused ts rest p r e none t =
    let P : Result (Path × Bor Tokens) Fail → Type 0 = Reads itself member Free (Isnt (tok.Sign sign.Dot)) ts in
    subst P (sym e) (record { why = member_short ts rest p none t })

member_beyond : (before rest : Tokens) (why : Why) → Beyond path Free before rest why
    → Beyond member Free before rest why
member_beyond before rest Unexpected b = tt
member_beyond before rest (Over l) b = record {
  next = b.next;
  later = b.later;
  rest_is = b.rest_is;
  tree = pushed b.tree io_name;
  after = b.after ++ io_text;
  goes_on = longer b.tree before (b.next ∷ b.after) b.goes_on;
  known = AreKnown-append b.after io_text b.known io_known;
  passes = b.passes;
  others = λ m k. tt;
}

member_stopped : (ts : Tokens) (why : Why) (left : ℕ) → Stopped path Free (Isnt (tok.Sign sign.Dot)) ts why left
    → Stopped member Free (Isnt (tok.Sign sign.Dot)) ts why left
member_stopped ts why left u = record {
  before = u.before;
  rest = u.rest;
  whole = u.whole;
  left_is = u.left_is;
  tree = pushed u.tree io_name;
  more = u.more ++ io_text;
  goes = longer u.tree u.before u.more u.goes;
  known = AreKnown-append u.more io_text u.known io_known;
  within = λ l. tt;
  lead = record {
    start = u.lead.start;
    ahead = u.lead.ahead;
    parts = u.lead.parts;
    leads = u.lead.leads;
    tree = pushed u.lead.tree io_name;
    more = u.lead.more ++ io_text;
    goes = longer u.lead.tree u.lead.start u.lead.more u.lead.goes;
    known = AreKnown-append u.lead.more io_text u.lead.known io_known;
    within = λ l. tt;
  };
  no_end = u.no_end;
  stuck = λ y us r other d e h f w. u.stuck y us r other d.1 e h f (counts_all why (λ l. tt));
  beyond = member_beyond u.before u.rest why u.beyond;
}

pub member_failed : (ts : Tokens) (e : Fail) → Failed path Free (Isnt (tok.Sign sign.Dot)) ts e
    → Failed member Free (Isnt (tok.Sign sign.Dot)) ts e
member_failed ts e f = failed_by (λ why left s. member_stopped ts why left s) f

pub has_member : Has member Free
has_member = record {
  tree = pushed (record { root = io_name; steps = [] }) io_name;
  tokens = io_at ∷ io_text;
  is = longer (record { root = io_name; steps = [] }) (io_at ∷ []) []
      (record { front = io_at ∷ []; back = []; parts = refl; first = inl refl; second = refl });
  known = (refl, io_known);
  within = λ l. tt;
}

pub ended_member : Has (with_semicolon member) Free
ended_member = has_suf (tok.Sign sign.Semicolon) member tt has_member

pub no_dot : Lets (tok.Sign sign.Semicolon) (Isnt (tok.Sign sign.Dot))
no_dot t e = λ i. let h : tok.Sign sign.Semicolon ≡ Dot = sym e ∙ i in cc

-- ---- what right sides begin with

word_at : (k : Lexical) {at : Spot} {q s : Tokens → Type 0} (us r ts : Tokens) → ((one_at k at ⨾ q) ⨾ s) us
    → head (us ++ r) ≡ head ts → Is k (head ts)
word_at k {at} us r ts d h =
    let P : Option Lexeme → Type 0 = Is k in
    subst P (sym (ap (λ l. head (l ++ r))
    (d.parts ∙ ap (λ l. l ++ d.back) (d.first.parts ∙ ap (λ l. l ++ d.first.back) d.first.first))) ∙ h) refl

-- neither word begins an expression or a call
plain_head : (us r ts : Tokens) → IsPlainSide (us ++ r) → head (us ++ r) ≡ head ts → IsPlainSide ts
plain_head us r ts p h =
    let P : Option Lexeme → Type 0 = λ o. (Is (tok.Word word.Take) o → ⊥) × (Is (tok.Word word.New) o → ⊥) in
    subst P h p

call_plain : (c : Invocation) (us r : Tokens) → with_semicolon call_written c us → IsPlainSide (us ++ r)
call_plain c us r d =
    let t = call_elim c us d in
    let P : Tokens → Type 0 = IsPlainSide in
    subst P (sym (append_assoc t.front (t.middle ++ t.end) r) ∙ ap (λ l. l ++ r) (sym t.parts))
    (path_plain (joined c.on c.method) t.front ((t.middle ++ t.end) ++ r) t.is_path)

take_new : (o : Option Lexeme) → Is (tok.Word word.Take) o → Is (tok.Word word.New) o → ⊥
take_new o i j = not_both (tok.Word word.Take) (tok.Word word.New) (λ e. cc) o i j

-- ---- `take`

abbrev pub taking : Lang (Spot × Path)
taking = Both (Token (tok.Word word.Take)) (with_semicolon member)

abbrev pub taken : Spot × Path → RightSide
taken q = Taken q.1 q.0

take_intro : (q : Spot × Path) (us : Tokens) → taking q us → with_semicolon right_of_equals (taken q) us
take_intro q us d =
    let e = d.second in
    record {
      front = d.front ++ e.front;
      back = e.back;
      parts = d.parts ∙ ap (λ l. d.front ++ l) e.parts ∙ sym (append_assoc d.front e.front e.back);
      first = (
        e.first.0,
        record {
          front = d.front;
          back = e.front;
          parts = refl;
          first = d.first;
          second = e.first.1;
        },
      );
      second = e.second;
    }

take_elim : (p : Path) (at : Spot) (us : Tokens) → with_semicolon right_of_equals (Taken p at) us → taking (at, p) us
take_elim p at us d =
    let f = d.first.1 in
    record {
      front = f.front;
      back = f.back ++ d.back;
      parts = d.parts ∙ ap (λ l. l ++ d.back) f.parts ∙ append_assoc f.front f.back d.back;
      first = f.first;
      second = record { front = f.back; back = d.back; parts = refl; first = (d.first.0, f.second); second = d.second };
    }

take_cases : (ts : Tokens) → Is (tok.Word word.Take) (head ts) → (y : RightSide) (us r : Tokens)
    → with_semicolon right_of_equals y us → head (us ++ r) ≡ head ts → (q : Spot × Path) × (y ≡ taken q) × taking q us
take_cases ts i (Value e) us r d h = absurd ((plain_head us r ts (value_plain e us r d) h).0 i)
take_cases ts i (Taken p at) us r d h = ((at, p), refl, take_elim p at us d)
take_cases ts i (Zeros e at) us r d h = absurd (take_new (head ts) i (word_at (tok.Word word.New) us r ts d h))
take_cases ts i (Made c gs es at) us r d h = absurd (take_new (head ts) i (word_at (tok.Word word.New) us r ts d h))
take_cases ts i (Returned c) us r d h = absurd ((plain_head us r ts (call_plain c us r d) h).0 i)

pub take_along : (ts : Tokens) → Is (tok.Word word.Take) (head ts)
    → Along (with_semicolon right_of_equals) taking KeepsRight (Pair Free Free) ts taken
take_along ts i = record {
  intro = take_intro;
  cases = λ y us r d h. take_cases ts i y us r d h;
  to =
      λ q us d l v. tt;
  from = λ q us d l v. (tt, tt);
}

-- ---- `new`

abbrev pub making : Lang (Spot × RightSide)
making = After (Token (tok.Word word.New)) made_side

made_right : (at : Spot) (y : RightSide) (us vs ws : Tokens) → one_at (tok.Word word.New) at us → made_side at y vs
    → ws ≡ us ++ vs → with_semicolon right_of_equals y ws
made_right at (Zeros e k) us vs ws d m s =
    let P : Spot → Type 0 = λ z. one_at (tok.Word word.New) z us in
    to_left ws (record { front = us; back = vs; parts = s; first = subst P (sym m.0) d; second = m.1 })
made_right at (Made c gs es k) us vs ws d m s =
    let P : Spot → Type 0 = λ z. one_at (tok.Word word.New) z us in
    to_left ws (record {
      front = us;
      back = vs;
      parts = s;
      first = subst P (sym m.0) d;
      second = to_left vs
          (behind vs (λ zs z. to_left zs z) m.1);
    })
made_right at (Value e) us vs ws d m s = absurd m
made_right at (Taken p k) us vs ws d m s = absurd m
made_right at (Returned c) us vs ws d m s = absurd m

new_cases : (ts : Tokens) → Is (tok.Word word.New) (head ts) → (y : RightSide) (us r : Tokens)
    → with_semicolon right_of_equals y us → head (us ++ r) ≡ head ts → (q : Spot × RightSide) × (y ≡ q.1)
    × making q us
new_cases ts i (Value e) us r d h = absurd ((plain_head us r ts (value_plain e us r d) h).1 i)
new_cases ts i (Taken p at) us r d h =
    let f : (one_at (tok.Word word.Take) at ⨾ path p) d.front = d.first.1 in
    absurd (take_new (head ts) (word_at (tok.Word word.Take) {s = one_token (tok.Sign sign.Semicolon)} us r ts
    (record { front = d.front; back = d.back; parts = d.parts; first = f; second = d.second }) h) i)
new_cases ts i (Zeros e at) us r d h = let f =
    to_right us d in (
      (at, Zeros e at),
      refl,
      record { front = f.front; back = f.back; parts = f.parts; first = f.first; second = (refl, f.second) },
    )
new_cases ts i (Made c gs es at) us r d h =
    let f = to_right us d in (
      (at, Made c gs es at),
      refl,
      record {
        front = f.front;
        back = f.back;
        parts = f.parts;
        first = f.first;
        second =
            (refl, behind f.back (λ zs z. to_right zs z) (to_right f.back f.second));
      },
    )
new_cases ts i (Returned c) us r d h = absurd ((plain_head us r ts (call_plain c us r d) h).1 i)

pub new_along : (ts : Tokens) → Is (tok.Word word.New) (head ts)
    → Along (with_semicolon right_of_equals) making KeepsRight (Limits Free (λ l at. KeepsRight l)) ts (λ q. q.1)
new_along ts i = record {
  intro = λ q us d. made_right q.0 q.1 d.front d.back us d.first d.second d.parts;
  cases = λ y us r d h. new_cases ts i y us r d h;
  to = λ q us d l v. v.1;
  from = λ q us d l v. (tt, v);
}

pub has_called : Has call_rest KeepsCalled
has_called = record { tree = ([], []); tokens = closing; is = called_none; known = closing_known; within = none_within }

pub has_made : HasEach made_side Free (λ l at. KeepsRight l)
has_made = record {
  tree = λ at. Made io_name [] [] at;
  tokens = λ at. io_at ∷ closing;
  is = λ at. (refl, record { front = io_at ∷ []; back = closing; parts = refl; first = refl; second = called_none });
  known = λ at. (refl, closing_known);
  within = λ l at w. none_within l;
}

pub new_links : AfterLinks made_side Always Always
new_links at y us r d f = tt

filled_name : (q : NameAt × (List NameAt × List Expression)) (us r ts : Tokens) → filled q us
    → head (us ++ r) ≡ head ts → IsName (head ts)
filled_name q us r ts d h =
    let P : Option Lexeme → Type 0 = IsName in
    subst P (sym (ap (λ l. head (l ++ r)) (d.parts ∙ ap (λ l. l ++ d.back) d.first)) ∙ h) (q.0.name, refl)

sized_ints : (e : Expression) (us r ts : Tokens) → with_semicolon sized e us → head (us ++ r) ≡ head ts
    → Is (tok.Word word.Ints) (head ts)
sized_ints e us r ts d h =
    let P : Option Lexeme → Type 0 = Is (tok.Word word.Ints) in
    let f = d.first in
    subst P (sym (ap (λ l. head (l ++ r))
    (d.parts ∙ ap (λ l. l ++ d.back) (f.parts ∙ ap (λ l. l ++ f.back) f.first.1))) ∙ h) refl

zeros_cases : (at : Spot) (ts : Tokens) → Is (tok.Word word.Ints) (head ts) → (y : RightSide) (us r : Tokens)
    → made_side at y us → head (us ++ r) ≡ head ts → (e : Expression) × (y ≡ Zeros e at) × with_semicolon sized e us
zeros_cases at ts i (Zeros e k) us r d h = (e, ap (λ a. Zeros e a) d.0, d.1)
zeros_cases at ts i (Made c gs es k) us r d h =
    absurd (ints_are_no_name (head ts) i (filled_name (c, (gs, es)) us r ts d.1 h))
zeros_cases at ts i (Value e) us r d h = absurd d
zeros_cases at ts i (Taken p k) us r d h = absurd d
zeros_cases at ts i (Returned c) us r d h = absurd d

pub zeros_along : (at : Spot) (ts : Tokens) → Is (tok.Word word.Ints) (head ts)
    → Along (made_side at) (with_semicolon sized) KeepsRight KeepsDepth ts (λ e. Zeros e at)
zeros_along at ts i = record {
  intro = λ q us d. (refl, d);
  cases = λ y us r d h. zeros_cases at ts i y us r d h;
  to =
      λ q us d l v. v;
  from = λ q us d l v. v;
}

abbrev pub Filled : Type 0
Filled = NameAt × (List NameAt × List Expression)

abbrev pub object_of : Spot → Filled → RightSide
object_of at q = Made q.0 q.1.0 q.1.1 at

object_cases : (at : Spot) (ts : Tokens) → (Is (tok.Word word.Ints) (head ts) → ⊥) → (y : RightSide) (us r : Tokens)
    → made_side at y us → head (us ++ r) ≡ head ts → (q : Filled) × (y ≡ object_of at q) × Both name call_rest q us
object_cases at ts i (Zeros e k) us r d h = absurd (i (sized_ints e us r ts d.1 h))
object_cases at ts i (Made c gs es k) us r d h = ((c, (gs, es)), ap (λ a. Made c gs es a) d.0, d.1)
object_cases at ts i (Value e) us r d h = absurd d
object_cases at ts i (Taken p k) us r d h = absurd d
object_cases at ts i (Returned c) us r d h = absurd d

pub object_along : (at : Spot) (ts : Tokens) → (Is (tok.Word word.Ints) (head ts) → ⊥)
    → Along (made_side at) (Both name call_rest) KeepsRight (Pair Free KeepsCalled) ts (object_of at)
object_along at ts i = record {
  intro = λ q us d. (refl, d);
  cases = λ y us r d h. object_cases at ts i y us r d h;
  to
      = λ q us d l v. v.1;
  from = λ q us d l v. (tt, v);
}

-- ---- the length of a new array

abbrev pub parted : Lang Expression
parted = Pre (tok.Sign sign.OpenParen) (Suf whole_expression (tok.Sign sign.CloseParen))

pub has_closed : Has (Suf whole_expression (tok.Sign sign.CloseParen)) KeepsDepth
has_closed = has_suf (tok.Sign sign.CloseParen) whole_expression tt has_whole

pub has_parted : Has parted KeepsDepth
has_parted = has_pre (tok.Sign sign.OpenParen) (Suf whole_expression (tok.Sign sign.CloseParen)) tt has_closed

-- ---- what is read behind `new`

abbrev new_limit : Limit → Spot → RightSide → Type 0
new_limit l at = KeepsRight l

pub new_first : (ts : Tokens) (e : Fail) → Is (tok.Word word.New) (head ts)
    → Failed (Token (tok.Word word.New)) Free Always ts e
    → Failed (with_semicolon right_of_equals) KeepsRight Always ts e
new_first ts e i f = failed_by
    (λ why left s. stopped_as (with_semicolon right_of_equals) making (λ q. q.1) (new_along ts i)
    (after_first {F = Always} {G = Always} new_limit new_links has_made s)) f

pub new_second : (ts mid : Tokens) (at : Spot) (e : Fail) → Is (tok.Word word.New) (head ts)
    → Took (Token (tok.Word word.New)) Free Always ts at mid → Failed (made_side at) KeepsRight Always mid e
    → Failed (with_semicolon right_of_equals) KeepsRight Always ts e
new_second ts mid at e i t f = failed_by
    (λ why left s. stopped_as (with_semicolon right_of_equals) making (λ q. q.1) (new_along ts i)
    (after_second new_limit new_links t s)) f

pub new_took : (ts mid rest : Tokens) (at : Spot) (y : RightSide) → Is (tok.Word word.New) (head ts)
    → Took (Token (tok.Word word.New)) Free Always ts at mid → Took (made_side at) KeepsRight Always mid y rest
    → Took (with_semicolon right_of_equals) KeepsRight Always ts y rest
new_took ts mid rest at y i t u = took_as (with_semicolon right_of_equals) making (λ q. q.1) (new_along ts i)
    (took_after new_limit new_links t u)
