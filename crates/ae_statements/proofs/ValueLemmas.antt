-- Right sides that are expressions.
use Rattle.std.proofs.Common.{◌≡◌, ℕ, nat_lt, ◌+◌, ◌≤◌, ◌<◌, ◌++◌, [], ◌∷◌, length, ◌⊎◌, inl, inr, Bool, true, false}
use Rattle.std.proofs.Common.{if◌then◌else◌, Option, refl, sym, ap, ◌∙◌, append_assoc, append-nil, length-append}
use Rattle.std.proofs.Common.{subst, arith}
use Rattle.std.proofs.lemmas.Bool.{cases_lt}
use Rattle.std.proofs.lemmas.Bool.Decides.{nat_tests}
use Rattle.ae_tree.specs.declared.limits.Limit.{Limit}
use Rattle.ae_text.specs.declared.token.Keyword.TheVariants as word
use Rattle.ae_text.specs.declared.token.Sign.TheVariants as sign
use Rattle.ae_tree.specs.declared.lexeme.Lexeme.{Lexeme}
use Rattle.ae_tree.specs.declared.lexeme.Lexical.TheVariants as tok
use Rattle.ae_tree.specs.declared.limits.Limit.TheVariants as limit
use Rattle.ae_tree.specs.Plain.{Expression, RightSide, Value, Returned}
use Rattle.ae_tree.specs.Grammar.{Tokens, one_token, whole_expression, right_of_equals}
use Rattle.ae_tree.specs.Limits.{KeepsDepth, KeepsRight, marks, early, rank}
use Rattle.ae_tree.specs.Refused.{is_mark, marks_in}
use Rattle.ae_reading.specs.declared.fail.Fail.{Fail}
use Rattle.ae_reading.specs.declared.fail.Fail.TheVariants.{Refused, Memory}
use Rattle.ae_reading.specs.declared.fail.Why.{Why}
use Rattle.ae_reading.specs.declared.fail.Why.TheVariants.{Unexpected, Over}
use Rattle.ae_reading.specs.Reads.{head, Always, Is, EndIsNone, Took, Stopped, Failed, Counts}
use Rattle.ae_statements.proofs.from_reading.ReadsLemmas.{head-append, NoEnd-append, lead_here, stopped_on}
use Rattle.ae_statements.proofs.from_reading.UniqueLemmas.{none_at}
use Rattle.ae_statements.proofs.from_expressions.UniqueExpressions.{form_of}
use Rattle.ae_statements.proofs.from_expressions.LeadingOperands.{IsStart, begins_expression}
use Rattle.ae_statements.specs.Productions.{with_semicolon}
use Rattle.ae_statements.specs.Deciding.{Calling, Comparing, IsValue, IsPlainSide, IsUndecided, no_earlier}
use Rattle.ae_statements.proofs.UniqueRightSides.{no_call}
use Rattle.ae_statements.proofs.MarkLemmas.{weight, marks_in-append, expression_marks}
use Rattle.ae_statements.proofs.SideLemmas.{PlainSide, plain_side}
use Rattle.ae_statements.proofs.SplitLemmas.{Filled, undecided_filled}
use Rattle.ae_statements.proofs.GoesLemmas.{end, closed}
use Rattle.ae_statements.proofs.DecideLemmas.{calling_within, front_of, path_no_end}

-- ---- expressions that are read

start_plain : (o : Option Lexeme) → IsStart o → (Is (tok.Word word.Take) o → ⊥) × (Is (tok.Word word.New) o → ⊥)
start_plain o s = (
  none_at form_of (tok.Word word.Take) (λ at. refl) o s,
  none_at form_of (tok.Word word.New)
      (λ at. refl) o s,
)

pub value_plain : (e : Expression) (us r : Tokens) → with_semicolon whole_expression e us → IsPlainSide (us ++ r)
value_plain e us r d =
    let f = front_of e us r d in
    let P : Tokens → Type 0 = IsPlainSide in
    subst P (sym f.same) (start_plain (head (f.front ++ f.back)) (begins_expression 0 e f.front f.back f.is))

pub value_took : (ts rest : Tokens) (e : Expression)
    → Took (with_semicolon whole_expression) KeepsDepth Always ts e rest
    → Took (with_semicolon right_of_equals) KeepsRight Always ts (Value e) rest
value_took ts rest e t = record {
  taken = t.taken;
  whole = t.whole;
  derives = t.derives;
  within = λ l. t.within l;
  no_end = t.no_end;
  only = λ y us r other d same h f. by_side y us r other same h
      (plain_side y us r (t.taken ++ other) d same (value_plain e t.taken other t.derives));
}
  where
    by_side : (y : RightSide) (us r other : Tokens) → us ++ r ≡ t.taken ++ other → head other ≡ head rest
        → PlainSide y us → (y ≡ Value e) × (r ≡ other)
    by_side y us r other same h (inl s) = let o = t.only s.0 us r other s.2 same h tt in (s.1 ∙ ap Value o.0, o.1)
    by_side y us r other same h (inr s) =
        let f = front_of e t.taken other t.derives in
        let c = s.2 in
        let all : f.front ++ f.back ≡ c.front ++ (c.back ++ r) = sym f.same ∙ sym same ∙ ap (λ z. z ++ r) c.parts
        ∙ append_assoc c.front c.back r in
        absurd (no_call e s.0 f.front c.front f.back (c.back ++ r) f.is c.first all f.ends)

-- ---- where the refused token stands

-- two cuttings of a text: the second is no earlier, or it is
meet : (a b c d : Tokens) → a ++ b ≡ c ++ d → ((e : Tokens) × (c ≡ a ++ e) × (b ≡ e ++ d))
    ⊎ ((t : Lexeme) × (e : Tokens) × (a ≡ c ++ t ∷ e) × (d ≡ t ∷ (e ++ b)))
meet [] b c d e = inl (c, refl, e)
meet (x ∷ a) b [] d e = inr (x, a, refl, sym e)
meet (x ∷ a) b (y ∷ c) d e =
    let h : x ≡ y = cc in
    let rest : a ++ b ≡ c ++ d = cc in
    elim (meet a b c d rest) [
      | inl q ↦ inl (q.0, ap (λ l. y ∷ l) q.1 ∙ ap (λ z. z ∷ (a ++ q.0)) (sym h), q.2)
      | inr q ↦ inr (q.0, q.1, ap (λ z. z ∷ a) h ∙ ap (λ l. y ∷ l) q.2, q.3)
    ]

is_value : (y : RightSide) (us : Tokens) (e : Expression) → y ≡ Value e → with_semicolon right_of_equals y us
    → with_semicolon whole_expression e us
is_value y us e same d = let P : RightSide → Type 0 = λ z. with_semicolon right_of_equals z us in subst P same d

-- the refused token is not before the deciding one
stopped_later : (ts : Tokens) (why : Why) (left at : ℕ) → (k : IsValue ts at)
    → (u : Stopped (with_semicolon whole_expression) KeepsDepth Always ts why left) → (c : Tokens)
    → u.before ≡ k.before ++ c → k.rest ≡ c ++ u.rest
    → Stopped (with_semicolon right_of_equals) KeepsRight Always ts why left
stopped_later ts why left at k u c b rest = stopped_on (with_semicolon right_of_equals)
    (with_semicolon whole_expression) {F = Always} Value (λ q us d. d) (λ q us d l v. v) (λ q us d l v. v) u
    (λ y us r other d e h f.
    let o = k.only y us r (c ++ other) d (e ∙ ap (λ l. l ++ other) b ∙ append_assoc k.before c other)
    (head-append c other u.rest h ∙ ap head (sym rest)) in
    (o.0, o.1, is_value y us o.0 o.1 d, f))

-- ---- a token before the deciding one

less_no_end : (us : Tokens) → one_token (tok.Sign sign.Less) us → EndIsNone us
less_no_end us d = let P : Tokens → Type 0 = EndIsNone in subst P (sym d.1) ((λ e. cc), tt)

undecided_no_end : (us : Tokens) → IsUndecided us → EndIsNone us
undecided_no_end us (p, inl d) = path_no_end p us d
undecided_no_end us (p, inr (inl d)) = let P : Tokens
    → Type 0 = EndIsNone in subst P (sym d.parts)
    (NoEnd-append d.front d.back (path_no_end p d.front d.first) (less_no_end d.back d.second))
undecided_no_end us (p, inr (inr (g, d))) =
    let P : Tokens → Type 0 = EndIsNone in
    let s = d.second in
    let name : EndIsNone s.back = subst P (sym s.second) ((λ e. cc), tt) in
    subst P (sym d.parts) (NoEnd-append d.front d.back (path_no_end p d.front d.first)
    (subst P (sym s.parts) (NoEnd-append s.front s.back (less_no_end s.front s.first) name)))

abbrev count : Bool → ℕ
count b = if b then 1 else 0

by_weight : (b : Bool) → ((b ≡ true) × (count b ≡ 1)) ⊎ (count b ≡ 0)
by_weight true = inl (refl, refl)
by_weight false = inr refl

-- how many tokens count before the refused one
marks_before : (e : Expression) (before more : Tokens) → with_semicolon whole_expression e (before ++ more)
    → marks e ≤ 256 → marks_in before ≤ 256
marks_before e before more d few =
    let a : marks_in (before ++ more) ≡ marks_in before + marks_in more = marks_in-append before more in
    let b : marks_in (before ++ more) ≡ marks_in d.front + marks_in d.back = ap marks_in d.parts
    ∙ marks_in-append d.front d.back in
    let c : marks_in d.back ≡ 0 = ap marks_in d.second.1 in
    let m : marks e ≡ marks_in d.front = expression_marks e 0 d.front d.first in
    omega (arith, a, b, c, m, few)

marks_next : (e : Expression) (before more : Tokens) (t : Lexeme) → whole_expression e (before ++ t ∷ more)
    → marks_in more ≡ 0 → (marks e ≤ 256 → ⊥) → 256 < marks_in before + weight t.kind
marks_next e before more t d none many =
    let m : marks e ≡ marks_in (before ++ t ∷ more) = expression_marks e 0 (before ++ t ∷ more) d in
    let a : marks_in (before ++ t ∷ more) ≡ marks_in before + (weight t.kind + marks_in more) = marks_in-append before
    (t ∷ more) in
    by_cases (cases_lt 256 (marks e)) m a
  where
    by_cases : (256 < marks e) ⊎ (marks e ≤ 256) → marks e ≡ marks_in (before ++ t ∷ more)
        → marks_in (before ++ t ∷ more) ≡ marks_in before + (weight t.kind + marks_in more)
        → 256 < marks_in before + weight t.kind
    by_cases (inl h) m a = omega (arith, h, m, a, none)
    by_cases (inr h) m a = absurd (many h)

record Overrun (before : Tokens) (t : Lexeme) : Type 0 where
  counts : is_mark t.kind ≡ true
  many : marks_in before ≡ 256

overrun : (before : Tokens) (t : Lexeme) → marks_in before ≤ 256 → 256 < marks_in before + weight t.kind
    → Overrun before t
overrun before t few many = by_cases (by_weight (is_mark t.kind))
  where
    by_cases : ((is_mark t.kind ≡ true) × (count (is_mark t.kind) ≡ 1)) ⊎ (count (is_mark t.kind) ≡ 0)
        → Overrun before t
    by_cases (inl c) = record { counts = c.0; many = omega (arith, few, many, c.1) }
    by_cases (inr z) = absurd (omega (arith, few, many, z))

-- an expression keeps to the limit that is named before its own
statements_kept : (e : Expression) (m : Limit) → rank m < 1 → KeepsRight m (Value e)
statements_kept e limit.Statements k = tt
statements_kept e limit.Levels k = absurd (omega (arith, k))
statements_kept e limit.Depth k = absurd (omega (arith, k))
statements_kept e limit.Params k = absurd (omega (arith, k))

-- the 257th token that counts stands before the deciding one
stopped_early : (ts : Tokens) (left at : ℕ) → (k : IsValue ts at)
    → (u : Stopped (with_semicolon whole_expression) KeepsDepth Always ts (Over limit.Depth) left)
    → (t : Lexeme) (c : Tokens) → k.before ≡ u.before ++ t ∷ c → u.rest ≡ t ∷ (c ++ k.rest) →
    IsUndecided k.before → Calling k.before → Comparing k.before k.rest
    → Stopped (with_semicolon right_of_equals) KeepsRight Always ts (Over limit.Depth) at
stopped_early ts left at k u t c b rest undecided calling comparing = record {
  before = k.before;
  rest = k.rest;
  whole = k.whole;
  left_is = k.left_is;
  tree = Returned calling.tree;
  more = calling.more;
  goes = calling.goes;
  known = calling.known;
  within = λ l. calling_within calling.tree calling.none (early l);
  lead = lead_here k.before (Returned calling.tree) calling.more calling.goes calling.known
      (calling_within calling.tree calling.none);
  no_end = undecided_no_end k.before undecided;
  stuck = λ y us r other d e h f w.
      let q = k.only y us r other d e h in
      let P : RightSide → Type 0 = KeepsRight limit.Depth in
      u.stuck q.0 us r (t ∷ (c ++ other)) (is_value y us q.0 q.1 d)
      (e ∙ ap (λ l. l ++ other) b ∙ append_assoc u.before (t ∷ c) other) (ap head (sym rest)) tt (subst P q.1 w);
  beyond = record {
    next = comparing.next;
    later = comparing.later;
    rest_is = comparing.rest_is;
    tree = Value comparing.tree;
    after = comparing.after;
    goes_on = comparing.goes_on;
    known = comparing.known;
    passes = tt;
    others = statements_kept comparing.tree;
  };
}

-- an expression goes on with the refused token
goes_on : (ts : Tokens) (why : Why) (left : ℕ)
    → (u : Stopped (with_semicolon whole_expression) KeepsDepth Always ts why left) → (t : Lexeme) (later : Tokens)
    → u.rest ≡ t ∷ later → (f : Filled Expression whole_expression u.before t) → Counts why (λ l. KeepsDepth l f.tree)
    → ⊥
goes_on ts why left u t later rest f w =
    u.stuck f.tree (u.before ++ (t ∷ (f.more ++ end))) [] (t ∷ (f.more ++ end))
    (closed f.tree u.before (t ∷ f.more) f.goes) (append-nil (u.before ++ (t ∷ (f.more ++ end))))
    (ap head (sym rest)) tt w

some_marks : (ts : Tokens) (at : ℕ) (k : IsValue ts at) (before c : Tokens) (t : Lexeme) → k.before ≡ before ++ t ∷ c
    → marks_in before ≡ 256 → marks_in k.before ≡ 0 → ⊥
some_marks ts at k before c t b many none =
    let a : marks_in k.before ≡ marks_in before + marks_in (t ∷ c) = ap marks_in b ∙ marks_in-append before (t ∷ c) in
    omega (arith, a, many, none)

stopped_before : (ts : Tokens) (why : Why) (left at : ℕ) → (k : IsValue ts at)
    → (u : Stopped (with_semicolon whole_expression) KeepsDepth Always ts why left) → (t : Lexeme) (c : Tokens)
    → k.before ≡ u.before ++ t ∷ c → u.rest ≡ t ∷ (c ++ k.rest) →
    IsUndecided k.before → Filled Expression whole_expression u.before t
    → Stopped (with_semicolon right_of_equals) KeepsRight Always ts why at
stopped_before ts Unexpected left at k u t c b rest undecided f =
    absurd (goes_on ts Unexpected left u t (c ++ k.rest) rest f tt)
stopped_before ts (Over limit.Statements) left at k u t c b rest undecided f =
    absurd (goes_on ts (Over limit.Statements) left u t (c ++ k.rest) rest f tt)
stopped_before ts (Over limit.Levels) left at k u t c b rest undecided f =
    absurd (goes_on ts (Over limit.Levels) left u t (c ++ k.rest) rest f tt)
stopped_before ts (Over limit.Params) left at k u t c b rest undecided f =
    absurd (goes_on ts (Over limit.Params) left u t (c ++ k.rest) rest f tt)
stopped_before ts (Over limit.Depth) left at k u t c b rest undecided f = by_both k.both
  where
    few : marks_in u.before ≤ 256
    few = marks_before u.tree u.before u.more u.goes (u.within limit.Depth)

    found : Overrun u.before t
    found = overrun u.before t few
        (marks_next f.tree u.before f.more t f.goes f.none
        (goes_on ts (Over limit.Depth) left u t (c ++ k.rest) rest f))

    by_both : (marks_in k.before ≡ 0) ⊎ (Calling k.before × Comparing k.before k.rest)
        → Stopped (with_semicolon right_of_equals) KeepsRight Always ts (Over limit.Depth) at
    by_both (inl none) = absurd (some_marks ts at k u.before c t b found.many none)
    by_both (inr (calling, comparing)) = stopped_early ts left at k u t c b rest undecided calling comparing

no_cut : (before c : Tokens) (t : Lexeme) → [] ≡ before ++ t ∷ c → ⊥
no_cut [] c t e = cc
no_cut (x ∷ before) c t e = cc

-- a right side stops where its expression does, or where it is known to be one, if that is later
abbrev StopsAt : Tokens → Why → ℕ → ℕ → Type 0
StopsAt ts why left at = ((left ≤ at) × Stopped (with_semicolon right_of_equals) KeepsRight Always ts why left)
    ⊎ ((at < left) × Stopped (with_semicolon right_of_equals) KeepsRight Always ts why at)

value_stopped : (ts : Tokens) (why : Why) (left at : ℕ) → IsValue ts at
    → Stopped (with_semicolon whole_expression) KeepsDepth Always ts why left → StopsAt ts why left at
value_stopped ts why left at k u = by_meet (meet k.before k.rest u.before u.rest (sym k.whole ∙ u.whole))
  where
    by_undecided : (t : Lexeme) (c : Tokens) → k.before ≡ u.before ++ t ∷ c → u.rest ≡ t ∷ (c ++ k.rest)
        → (k.before ≡ []) ⊎ IsUndecided k.before
        → Stopped (with_semicolon right_of_equals) KeepsRight Always ts why at
    by_undecided t c b rest (inl none) = absurd (no_cut u.before c t (sym none ∙ b))
    by_undecided t c b rest (inr w) = stopped_before ts why left at k u t c b rest w
        (undecided_filled k.before u.before c t w b)

    by_meet : ((e : Tokens) × (u.before ≡ k.before ++ e) × (k.rest ≡ e ++ u.rest))
        ⊎ ((t : Lexeme) × (e : Tokens) × (k.before ≡ u.before ++ t ∷ e) × (u.rest ≡ t ∷ (e ++ k.rest)))
        → StopsAt ts why left at
    by_meet (inl q) = inl (omega (arith, u.left_is, k.left_is, ap length q.2, length-append q.0 u.rest), stopped_later ts why left at k u q.0 q.1 q.2)
    by_meet (inr q) = inr (
      omega (arith, u.left_is, k.left_is, ap length q.3, length-append q.1 k.rest),
      by_undecided q.0 q.1 q.2 q.3 k.undecided,
    )

-- the fewer of two numbers of tokens
fewer : (P : ℕ → Type 0) (left at : ℕ) → ((left ≤ at) × P left) ⊎ ((at < left) × P at)
    → P (if nat_lt left at then left else at)
fewer P left at s = by_test (nat_lt left at) refl s
  where
    by_test : (t : Bool) → nat_lt left at ≡ t → ((left ≤ at) × P left) ⊎ ((at < left) × P at)
        → P (if t then left else at)
    by_test true e (inl q) = q.1
    by_test true e (inr q) = absurd (let l : left < at = grind (arith, nat_tests) in let m = q.0 in omega (arith, l, m))
    by_test false e (inl q) = let l : at ≤ left = grind (arith, nat_tests) in let m = q.0 in let same : left
        ≡ at = omega (arith, l, m) in subst P same q.1
    by_test false e (inr q) = q.1

pub value_failed : (ts : Tokens) (at : ℕ) (e : Fail) → IsValue ts at
    → Failed (with_semicolon whole_expression) KeepsDepth Always ts e
    → Failed (with_semicolon right_of_equals) KeepsRight Always ts (no_earlier e at)
value_failed ts at (Refused why left) k f =
    record {
      why = fewer (Stopped (with_semicolon right_of_equals) KeepsRight Always ts why) left at
          (value_stopped ts why left at k f.why);
    }
value_failed ts at Memory k f = record { why = tt }
