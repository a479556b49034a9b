-- Chains of operators at a level.
use Rattle.std.proofs.Common.{◌≡◌, ℕ, ◌+◌, ◌≤◌, ◌++◌, List, [], ◌∷◌, length, Option, Some, None, refl, sym, ap, ◌∙◌}
use Rattle.std.proofs.Common.{append_assoc, append-nil, subst, arith, pos, inl, inr, ◌<◌}
use Rattle.std.proofs.lemmas.Bool.{cases_lt}
use Rattle.ae_tree.specs.declared.lexeme.Lexeme.{Lexeme}
use Rattle.ae_tree.specs.declared.lexeme.Lexical.TheVariants as tok
use Rattle.ae_tree.specs.declared.limits.Limit.{Limit}
use Rattle.ae_tree.specs.declared.limits.Limit.TheVariants.{Depth}
use Rattle.ae_tree.specs.declared.tree.Op.{Op}
use Rattle.ae_tree.specs.Plain.{Expression, Number, Truth, Nothing, Read, Item, Length, Grouped, Negated, Minus, Binary}
use Rattle.ae_tree.specs.Grammar.{Tokens, ◌⨾◌, one_by_one, level, left_level, sign_of, a_sign}
use Rattle.ae_tree.specs.Limits.{marks, rank}
use Rattle.ae_reading.specs.declared.fail.Why.{Why}
use Rattle.ae_reading.specs.declared.fail.Why.TheVariants.{Over}
use Rattle.ae_reading.specs.Reads.{head, Is, Always, Free, Took, Stopped, Larger, TokenMark}
use Rattle.ae_expressions.proofs.from_reading.ReadsLemmas.{Lang, Bound, Both, Limits, Pair, Has, Links, Along}
use Rattle.ae_expressions.proofs.from_reading.ReadsLemmas.{NoneAt, took_as, stopped_as, took_then, stopped_second}
use Rattle.ae_expressions.proofs.from_reading.ReadsLemmas.{stopped_first_with, took_mark, nowhere, at_once}
use Rattle.ae_expressions.proofs.from_reading.ReadsLemmas.{took_kind, free}
use Rattle.ae_expressions.proofs.from_reading.Begins.{Begins, opens_mark, opens_so}
use Rattle.ae_expressions.proofs.from_reading.Parts.{optional, left_out, took_optional, stopped_optional}
use Rattle.ae_expressions.proofs.from_reading.Runs.{each_turns, Run, each-append, each-one, run_start, run_more}
use Rattle.ae_expressions.proofs.from_reading.Runs.{run_stopped, run_full, run_end}
use Rattle.ae_expressions.specs.Ends.{Ends}
use Rattle.ae_expressions.specs.Productions.{NoOperator, IsOperator, at_level, AtMostMarks}
use Rattle.ae_expressions.proofs.OperatorLemmas.{operator_ends, same_operator, same_level, over_two, first_sign}
use Rattle.ae_expressions.proofs.OperatorLemmas.{ends_later, ends_at, goes_on}
use Rattle.ae_expressions.proofs.OptionLemmas.{full, none_before}

abbrev pub zero_expression : Expression
zero_expression = Number (pos 0) nowhere

pub has_at_level : (l n : ℕ) → Has (at_level l) (AtMostMarks n)
has_at_level l n = record {
  tree = zero_expression;
  tokens = at_once (tok.Int (pos 0));
  is = refl;
  known =
      (tt, tt);
  within = λ l e. omega arith;
}

-- ---- chains

-- an operator of a level, and what stands to its right, one of the trees D of the level above
abbrev pub item_of : (ℕ → Lang Expression) → ℕ → Lang (Op × Expression)
item_of D l q us = (level q.0 ≡ l) × (a_sign (sign_of q.0) ⨾ D (l + 1) q.1) us

abbrev pub item : ℕ → Lang (Op × Expression)
item = item_of at_level

abbrev pub adds : Expression → List (Op × Expression) → Expression
adds a [] = a
adds a (q ∷ qs) = adds (Binary q.0 a q.1) qs

pub adds-push : (a : Expression) (qs : List (Op × Expression)) (q : Op × Expression)
    → adds a (qs ++ q ∷ []) ≡ Binary q.0 (adds a qs) q.1
adds-push a [] q = refl
adds-push a (p ∷ qs) q = adds-push (Binary p.0 a p.1) qs q

adds-append : (a : Expression) (ps qs : List (Op × Expression)) → adds a (ps ++ qs) ≡ adds (adds a ps) qs
adds-append a [] qs = refl
adds-append a (p ∷ ps) qs = adds-append (Binary p.0 a p.1) ps qs

marks-adds : (a : Expression) (qs : List (Op × Expression)) → marks a ≤ marks (adds a qs)
marks-adds a [] = omega arith
marks-adds a (q ∷ qs) = let h : marks (Binary q.0 a q.1) ≤ marks (adds (Binary q.0 a q.1) qs) = marks-adds
    (Binary q.0 a q.1) qs in omega (arith, h)

abbrev pub Under : ℕ → Limit → Expression → List (Op × Expression) → Type 0
Under n l a qs = l ≡ Depth → marks (adds a qs) ≤ n

abbrev pub chained_of : (ℕ → Lang Expression) → ℕ → Lang (Expression × List (Op × Expression))
chained_of D l = Both (D (l + 1)) (one_by_one (item_of D l))

abbrev pub chained : ℕ → Lang (Expression × List (Op × Expression))
chained = chained_of at_level

weaker : (l : ℕ) (y : Expression) (us : Tokens) → at_level (l + 1) y us → at_level l y us
weaker l (Number n at) us d = d
weaker l (Truth b at) us d = d
weaker l (Nothing at) us d = d
weaker l (Read p) us d = d
weaker l (Item p e) us d = d
weaker l (Length p at) us d = d
weaker l (Grouped e at) us d = d
weaker l (Negated e at) us d = d
weaker l (Minus e at) us d = d
weaker l (Binary o a b) us d = (omega (arith, d.0), d.1)

adds_from : (l : ℕ) → (l ≡ 2 → ⊥) → (a : Expression) (qs : List (Op × Expression)) (us vs : Tokens) → at_level l a us
    → one_by_one (item l) qs vs → at_level l (adds a qs) (us ++ vs)
adds_from l apart a [] us vs d m = let P : Tokens
    → Type 0 = at_level l a in subst P (sym (append-nil us) ∙ ap (λ l. us ++ l) (sym m)) d
adds_from l apart a (q ∷ qs) us vs d m =
    let P : Tokens → Type 0 = at_level l (adds (Binary q.0 a q.1) qs) in
    let e : level q.0 ≡ l = m.first.0 in
    let A : ℕ → Type 0 = λ k. at_level k a us in
    let B : ℕ → Type 0 = λ k. (a_sign (sign_of q.0) ⨾ at_level (k + 1) q.1) m.front in
    let left : left_level q.0 ≡ l = same_level q.0 (λ z. apart (sym e ∙ z)) ∙ e in
    let two : at_level l (Binary q.0 a q.1) (us ++ m.front) = (
      omega (arith, e),
      record {
        front = us;
        back = m.front;
        parts = refl;
        first = subst A (sym left) d;
        second =
            subst B (sym e) m.first.1;
      },
    ) in
    subst P (append_assoc us m.front m.back ∙ ap (λ l. us ++ l) (sym m.parts))
    (adds_from l apart (Binary q.0 a q.1) qs (us ++ m.front) m.back two m.second)

chain_is : (l : ℕ) → (l ≡ 2 → ⊥) → (q : Expression × List (Op × Expression)) (us : Tokens) → chained l q us
    → at_level l (adds q.0 q.1) us
chain_is l apart q us d = let P : Tokens → Type 0 = at_level l (adds q.0 q.1) in subst P (sym d.parts)
    (adds_from l apart q.0 q.1 d.front d.back (weaker l q.0 d.front d.first) d.second)

abbrev pub IsChain : (ℕ → Lang Expression) → ℕ → Expression → Tokens → Type 0
IsChain D l y us = (q : Expression × List (Op × Expression)) × (y ≡ adds q.0 q.1) × chained_of D l q us

pub one_chain : (D : ℕ → Lang Expression) (l : ℕ) (y : Expression) (us : Tokens) → D (l + 1) y us → IsChain D l y us
one_chain D l y us d = (
  (y, []),
  refl,
  record { front = us; back = []; parts = sym (append-nil us); first = d; second = refl },
)

pub longer_chain : (D : ℕ → Lang Expression) (l : ℕ) (o : Op) (a b : Expression) (us vs : Tokens) → IsChain D l a us
    → item_of D l (o, b) vs → IsChain D l (Binary o a b) (us ++ vs)
longer_chain D l o a b us vs c d = (
  (c.0.0, c.0.1 ++ (o, b) ∷ []),
  ap (λ x. Binary o x b) c.1 ∙ sym (adds-push c.0.0 c.0.1 (o, b)),
  record {
    front = c.2.front;
    back = c.2.back ++ vs;
    parts = ap (λ l. l ++ vs) c.2.parts ∙ append_assoc c.2.front c.2.back vs;
    first = c.2.first;
    second = each-append (item_of D l) c.0.1 ((o, b) ∷ []) c.2.back vs c.2.second (each-one (item_of D l) (o, b) vs d);
  },
)

pub is_chain : (l : ℕ) → (l ≡ 2 → ⊥) → (y : Expression) (us : Tokens) → at_level l y us → IsChain at_level l y us
is_chain l apart (Number n at) us d = one_chain at_level l (Number n at) us d
is_chain l apart (Truth b at) us d = one_chain at_level l (Truth b at) us d
is_chain l apart (Nothing at) us d = one_chain at_level l (Nothing at) us d
is_chain l apart (Read p) us d = one_chain at_level l (Read p) us d
is_chain l apart (Item p e) us d = one_chain at_level l (Item p e) us d
is_chain l apart (Length p at) us d = one_chain at_level l (Length p at) us d
is_chain l apart (Grouped e at) us d = one_chain at_level l (Grouped e at) us d
is_chain l apart (Negated e at) us d = one_chain at_level l (Negated e at) us d
is_chain l apart (Minus e at) us d = one_chain at_level l (Minus e at) us d
is_chain l apart (Binary o a b) us d = elim (cases_lt l (level o)) [
  | inl less ↦ one_chain at_level l (Binary o a b) us (omega (arith, less), d.1)
  | inr other ↦
      let e : level o ≡ l = omega (arith, other, d.0) in
      let left : left_level o ≡ l = same_level o (λ z. apart (sym e ∙ z)) ∙ e in
      let A : ℕ → Type 0 = λ k. at_level k a d.1.front in
      let B : ℕ → Type 0 = λ k. (a_sign (sign_of o) ⨾ at_level (k + 1) b) d.1.back in
      let P : Tokens → Type 0 = IsChain at_level l (Binary o a b) in
      subst P (sym d.1.parts) (longer_chain at_level l o a b d.1.front d.1.back
      (is_chain l apart a d.1.front (subst A left d.1.first)) (e, subst B e d.1.second))
]

chain_along : (l n : ℕ) → (l ≡ 2 → ⊥) → (ts : Tokens)
    → Along (at_level l) (chained l) (AtMostMarks n) (Limits (AtMostMarks n) (Under n)) ts (λ q. adds q.0 q.1)
chain_along l n apart ts = record {
  intro = chain_is l apart;
  cases = λ y us r d h. is_chain l apart y us d;
  to = λ q us d k v. v.1;
  from = λ q us d k v. ((λ e. omega (arith, marks-adds q.0 q.1, v e)), v);
}

-- ---- the tokens that may follow

pub begins_item : (D : ℕ → Lang Expression) (l : ℕ) (q : Op × Expression) (us r : Tokens) → item_of D l q us
    → Is (tok.Sign (sign_of q.0)) (head (us ++ r))
begins_item D l q us r d = opens_so us r (opens_mark us r d.1)

pub item_goes : (D : ℕ → Lang Expression) (l : ℕ) → Begins (item_of D l) (Ends (l + 1))
item_goes D l q us r d = operator_ends (l + 1) q.0 (omega (arith, d.0)) (head (us ++ r)) (begins_item D l q us r d)

pub chain_turns : (l : ℕ) → Links (one_by_one (item l)) (Ends l) (Ends (l + 1))
chain_turns l = each_turns (item l) (Ends l) (Ends (l + 1)) (item_goes at_level l) (ends_later l)

pub no_item : (l : ℕ) (rest : Tokens) → NoOperator l rest → NoneAt (item l) rest
no_item l [] none y us r d h = let s = first_sign (sign_of y.0) (at_level (l + 1) y.1) us r d.1 in let no : Some
    (record { kind = tok.Sign (sign_of y.0); at = s.0 }) ≡ None = sym s.1 ∙ h in cc
no_item l (t ∷ ts) none y us r d h =
    let s = first_sign (sign_of y.0) (at_level (l + 1) y.1) us r d.1 in
    let same : Some (record { kind = tok.Sign (sign_of y.0); at = s.0 }) ≡ Some t = sym s.1 ∙ h in
    let is : t ≡ record { kind = tok.Sign (sign_of y.0); at = s.0 } = cc in
    none y.0 (ap (λ (l : Lexeme). l.kind) is) d.0

-- ---- an operator and its operand

abbrev signed : ℕ → Op → Lang (Unit {0} × Expression)
signed l o = Both (TokenMark (tok.Sign (sign_of o))) (at_level (l + 1))

abbrev OperandAtMost : ℕ → Limit → Op × Expression → Type 0
OperandAtMost m k q = AtMostMarks m k q.1

item_cases : (l : ℕ) (rest more : Tokens) (o : Op) → IsOperator l rest o more → (y : Op × Expression) (us r : Tokens)
    → item l y us → head (us ++ r) ≡ head rest → (q : Unit {0} × Expression) × (y ≡ (o, q.1)) × signed l o q us
item_cases l rest more o i y us r d h =
    let s = first_sign (sign_of y.0) (at_level (l + 1) y.1) us r d.1 in
    let same : Some (record { kind = tok.Sign (sign_of y.0); at = s.0 }) ≡ Some i.token = sym s.1 ∙ h
    ∙ ap head i.whole in
    let is : i.token ≡ record { kind = tok.Sign (sign_of y.0); at = s.0 } = cc in
    let kinds : tok.Sign (sign_of y.0) ≡ tok.Sign (sign_of o) = sym (ap (λ (l : Lexeme). l.kind) is) ∙ i.kind in
    let e : y.0 ≡ o = same_operator y.0 o kinds in
    let P : Op → Type 0 = λ p. (a_sign (sign_of p) ⨾ at_level (l + 1) y.1) us in
    ((tt, y.1), ap (λ p. (p, y.1)) e, subst P e d.1)

item_along : (l m : ℕ) (rest more : Tokens) (o : Op) → IsOperator l rest o more
    → Along (item l) (signed l o) (OperandAtMost m) (Pair Free (AtMostMarks m)) rest (λ q. (o, q.1))
item_along l m rest more o i = record {
  intro = λ q us d. (i.at_level, d);
  cases = item_cases l rest more o i;
  to = λ q us d k v. v.1;
  from = λ q us d k v. (tt, v);
}

operator_took : (l : ℕ) (rest more : Tokens) (o : Op) → IsOperator l rest o more
    → Took (TokenMark (tok.Sign (sign_of o))) Free Always rest tt more
operator_took l rest more o i = took_mark (took_kind (tok.Sign (sign_of o)) rest more i.token (λ q. cc) i.whole i.kind)

item_took : (l m : ℕ) (rest more after : Tokens) (o : Op) (b : Expression) → IsOperator l rest o more
    → Took (at_level (l + 1)) (AtMostMarks m) (Ends (l + 1)) more b after
    → Took (item l) (OperandAtMost m) (Ends (l + 1)) rest (o, b) after
item_took l m rest more after o b i t =
    took_as (item l) (signed l o) (λ q. (o, q.1)) (item_along l m rest more o i)
    (took_then (λ k x. AtMostMarks m k) (free (at_level (l + 1)) (Ends (l + 1)))
    (operator_took l rest more o i) t)

item_stopped : (l m : ℕ) (rest more : Tokens) (o : Op) (why : Why) (left : ℕ) → IsOperator l rest o more
    → Stopped (at_level (l + 1)) (AtMostMarks m) (Ends (l + 1)) more why left
    → Stopped (item l) (OperandAtMost m) (Ends (l + 1)) rest why left
item_stopped l m rest more o why left i t =
    stopped_as (item l) (signed l o) (λ q. (o, q.1)) (item_along l m rest more o i)
    (stopped_second (λ k x. AtMostMarks m k) (free (at_level (l + 1)) (Ends (l + 1)))
    (operator_took l rest more o i) t)

-- ---- what the loop has read

pub record Chain (l n : ℕ) (ts : Tokens) (left : Expression) (used : ℕ) (rest : Tokens) : Type 0 where
  pub start : Expression
  pub more : List (Op × Expression)
  pub middle : Tokens
  pub first : Took (at_level (l + 1)) (AtMostMarks n) (Ends (l + 1)) ts start middle
  pub others : Run (item l) (λ k. Under n k start) (Ends l) middle more rest
  pub is : left ≡ adds start more
  pub count : used ≡ marks left
  pub few : used ≤ n

pub chain_start : (l n : ℕ) (ts rest : Tokens) (x : Expression) (used : ℕ)
    → Took (at_level (l + 1)) (AtMostMarks n) (Ends (l + 1)) ts x rest → used ≡ marks x → Chain l n ts x used rest
chain_start l n ts rest x used t e = record {
  start = x;
  more = [];
  middle = rest;
  first = t;
  others = run_start (item l) (λ k. Under n k x) (Ends l) rest t.within;
  is = refl;
  count = e;
  few = omega (arith, e, t.within Depth refl);
}

-- the marks before an operand, and those of the operand
operand_fits : (n used m : ℕ) (start : Expression) (xs : List (Op × Expression)) (z : Op × Expression)
    → used ≡ marks (adds start xs) → used + 1 + m ≤ n → marks z.1 ≤ m → marks (adds start (xs ++ z ∷ [])) ≤ n
operand_fits n used m start xs z count fit small = let e : marks (adds start (xs ++ z ∷ [])) ≡ marks (adds start xs) +
    1 + marks z.1 = ap marks (adds-push start xs z) in omega (arith, e, count, fit, small)

operand_over : (used : ℕ) (start : Expression) (xs : List (Op × Expression)) (z : Op × Expression)
    (zs : List (Op × Expression)) → used ≡ marks (adds start xs)
    → used + 1 + marks z.1 ≤ marks (adds start (xs ++ z ∷ zs))
operand_over used start xs z zs count =
    let e : marks (adds start (xs ++ z ∷ zs)) ≡ marks (adds (Binary z.0 (adds start xs) z.1) zs) = ap marks
    (adds-append start xs (z ∷ zs)) in
    let h : marks (Binary z.0 (adds start xs) z.1) ≤ marks (adds (Binary z.0 (adds start xs) z.1) zs) = marks-adds
    (Binary z.0 (adds start xs) z.1) zs in
    omega (arith, e, h, count)

operand_back : (n used m : ℕ) (start : Expression) (xs : List (Op × Expression)) → used ≡ marks (adds start xs)
    → m + used + 1 ≡ n → (z : Op × Expression) (zs : List (Op × Expression)) → marks (adds start (xs ++ z ∷ zs)) ≤ n
    → marks z.1 ≤ m
operand_back n used m start xs count all z zs under = omega (arith, operand_over used start xs z zs count, all, under)

pub chain_more : (l n m : ℕ) (ts rest more after : Tokens) (left right next : Expression) (o : Op) (used used' : ℕ)
    → Chain l n ts left used rest → IsOperator l rest o more →
    m + used + 1 ≡ n → Took (at_level (l + 1)) (AtMostMarks m) (Ends (l + 1)) more right after
    → next ≡ Binary o left right → used' ≡ used + 1 + marks right → Chain l n ts next used' after
chain_more l n m ts rest more after left right next o used used' c i all t e u = record {
  start = c.start;
  more = c.more ++ (o, right) ∷ [];
  middle = c.middle;
  first = c.first;
  others = run_more {V = λ k. Under n k c.start} (chain_turns l) (goes_on l rest more o i)
      (λ k q. operand_fits n used m c.start c.more (o, right) (c.count ∙ ap marks c.is) (omega (arith, all))
      (t.within Depth refl))
      c.others (item_took l m rest more after o right i t);
  is = e ∙ ap (λ x. Binary o x right) c.is ∙ sym (adds-push c.start c.more (o, right));
  count = let h : marks next ≡ marks left + 1 + marks right = ap marks e in omega (arith, h, u, c.count);
  few = omega (arith, u, t.within Depth refl, all);
}

pub chain_stopped : (l n m : ℕ) → (l ≡ 2 → ⊥) → (ts rest more : Tokens) (tree : Expression) (o : Op) (used : ℕ)
    (why : Why) (left : ℕ) → Chain l n ts tree used rest → IsOperator l rest o more →
    m + used + 1 ≡ n → Stopped (at_level (l + 1)) (AtMostMarks m) (Ends (l + 1)) more why left
    → Stopped (at_level l) (AtMostMarks n) (Ends l) ts why left
chain_stopped l n m apart ts rest more tree o used why left c i all t =
    let count : used ≡ marks (adds c.start c.more) = c.count ∙ ap marks c.is in
    stopped_as (at_level l) (chained l) (λ q. adds q.0 q.1) (chain_along l n apart ts)
    (stopped_second (Under n) (chain_turns l) c.first
    (run_stopped {V = λ k. Under n k c.start} (chain_turns l) (goes_on l rest more o i)
    (λ k z w q. operand_fits n used m c.start c.more z count (omega (arith, all)) (w q))
    (λ k z zs w q. operand_back n used m c.start c.more count all z zs (w q)) c.others
    (item_stopped l m rest more o why left i t)))

pub chain_first_stopped : (l n : ℕ) → (l ≡ 2 → ⊥) → (ts : Tokens) (why : Why) (left : ℕ)
    → Stopped (at_level (l + 1)) (AtMostMarks n) (Ends (l + 1)) ts why left
    → Stopped (at_level l) (AtMostMarks n) (Ends l) ts why left
chain_first_stopped l n apart ts why left t =
    stopped_as (at_level l) (chained l) (λ q. adds q.0 q.1) (chain_along l n apart ts)
    (stopped_first_with (Under n) (chain_turns l) [] [] refl tt (λ k x w. w) t)

-- an item goes on with this operator
item_goes_on : (l : ℕ) (W : Bound (Op × Expression)) → ((m : Limit) (x : Op × Expression) → rank m < 1 → W m x)
    → (rest more : Tokens) (o : Op) → IsOperator l rest o more → Larger Depth (item l) W [] rest
item_goes_on l W others rest more o i =
    let token_is : i.token ≡ record { kind = tok.Sign (sign_of o); at = i.token.at } =
    ap (λ k. record { kind = k; at = i.token.at }) i.kind in
    let P : Lexeme → Type 0 = λ t. item l (o, zero_expression) (t ∷ at_once (tok.Int (pos 0))) in
    let one_more : P (record { kind = tok.Sign (sign_of o); at = i.token.at }) = (
      i.at_level,
      record {
        front = record { kind = tok.Sign (sign_of o); at = i.token.at }
            ∷ [];
        back = at_once (tok.Int (pos 0));
        parts = refl;
        first = (i.token.at, refl);
        second = refl;
      },
    ) in
    record {
      next = i.token;
      later = more;
      rest_is = i.whole;
      tree =
          (o, zero_expression);
      after = at_once (tok.Int (pos 0));
      known =
          (tt, tt);
      goes_on = subst P (sym token_is) one_more;
      passes = tt;
      others =
          λ m k. others m (o, zero_expression) k;
    }

-- one operator too many
pub chain_over : (l n : ℕ) → (l ≡ 2 → ⊥) → (ts rest more : Tokens) (tree : Expression) (o : Op) (used : ℕ)
    → Chain l n ts tree used rest → IsOperator l rest o more → n ≤ used
    → Stopped (at_level l) (AtMostMarks n) (Ends l) ts (Over Depth) (length rest)
chain_over l n apart ts rest more tree o used c i full =
    let count : used ≡ marks (adds c.start c.more) = c.count ∙ ap marks c.is in
    stopped_as (at_level l) (chained l) (λ q. adds q.0 q.1) (chain_along l n apart ts)
    (stopped_second (Under n) (chain_turns l) c.first
    (run_full {V = λ k. Under n k c.start} (Over Depth) (goes_on l rest more o i)
    (λ z zs us r d h under. omega (arith, operand_over used c.start c.more z zs count, full, under refl))
    (item_goes_on l (λ k z. Under n k c.start (c.more ++ z ∷ [])) (λ m x k e. none_before m k e) rest more o i)
    c.others))

pub chain_ends : (l n : ℕ) → (l ≡ 2 → ⊥) → (ts rest : Tokens) (left : Expression) (used : ℕ)
    → Chain l n ts left used rest → NoOperator l rest → Took (at_level l) (AtMostMarks n) (Ends l) ts left rest
chain_ends l n apart ts rest left used c none =
    let P : Expression → Type 0 = λ x. Took (at_level l) (AtMostMarks n) (Ends l) ts x rest in
    subst P (sym c.is) (took_as (at_level l) (chained l) (λ q. adds q.0 q.1) (chain_along l n apart ts)
    (took_then (Under n) (chain_turns l) c.first (run_end (no_item l rest none) c.others)))

-- ---- comparisons: at most one operator

abbrev joined : Expression → Option (Op × Expression) → Expression
joined a None = a
joined a (Some q) = Binary q.0 a q.1

abbrev JoinedUnder : ℕ → Limit → Expression → Option (Op × Expression) → Type 0
JoinedUnder n k a q = AtMostMarks n k (joined a q)

abbrev compared : Lang (Expression × Option (Op × Expression))
compared = Both (at_level 3) (optional (item 2))

compared_is : (a : Expression) (q : Option (Op × Expression)) (us : Tokens) → compared (a, q) us
    → at_level 2 (joined a q) us
compared_is a None us d = let P : Tokens
    → Type 0 = at_level 2 a in subst P (sym (append-nil d.front) ∙ ap (λ l. d.front ++ l) (sym d.second)
    ∙ sym d.parts) (weaker 2 a d.front d.first)
compared_is a (Some q) us d =
    let e : level q.0 ≡ 2 = d.second.0 in
    let A : ℕ → Type 0 = λ k. at_level k a d.front in
    let B : ℕ → Type 0 = λ k. (a_sign (sign_of q.0) ⨾ at_level (k + 1) q.1) d.back in (
      omega (arith, e),
      record {
        front = d.front;
        back = d.back;
        parts = d.parts;
        first =
            subst A (sym (over_two q.0 e)) d.first;
        second = subst B (sym e) d.second.1;
      },
    )

abbrev IsCompared : Expression → Tokens → Type 0
IsCompared y us = (q : Expression × Option (Op × Expression)) × (y ≡ joined q.0 q.1) × compared q us

one_sum : (y : Expression) (us : Tokens) → at_level 3 y us → IsCompared y us
one_sum y us d = (
  (y, None),
  refl,
  record { front = us; back = []; parts = sym (append-nil us); first = d; second = refl },
)

is_compared : (y : Expression) (us : Tokens) → at_level 2 y us → IsCompared y us
is_compared (Number n at) us d = one_sum (Number n at) us d
is_compared (Truth b at) us d = one_sum (Truth b at) us d
is_compared (Nothing at) us d = one_sum (Nothing at) us d
is_compared (Read p) us d = one_sum (Read p) us d
is_compared (Item p e) us d = one_sum (Item p e) us d
is_compared (Length p at) us d = one_sum (Length p at) us d
is_compared (Grouped e at) us d = one_sum (Grouped e at) us d
is_compared (Negated e at) us d = one_sum (Negated e at) us d
is_compared (Minus e at) us d = one_sum (Minus e at) us d
is_compared (Binary o a b) us d = elim (cases_lt 2 (level o)) [
  | inl less ↦ one_sum (Binary o a b) us (omega (arith, less), d.1)
  | inr other ↦
      let e : level o ≡ 2 = omega (arith, other, d.0) in
      let A : ℕ → Type 0 = λ k. at_level k a d.1.front in
      let B : ℕ → Type 0 = λ k. (a_sign (sign_of o) ⨾ at_level (k + 1) b) d.1.back in (
        (a, Some (o, b)),
        refl,
        record {
          front = d.1.front;
          back = d.1.back;
          parts = d.1.parts;
          first = subst A (over_two o e) d.1.first;
          second =
              (e, subst B e d.1.second);
        },
      )
]

joined_more : (a : Expression) (q : Option (Op × Expression)) → marks a ≤ marks (joined a q)
joined_more a None = omega arith
joined_more a (Some q) = omega arith

compared_along : (n : ℕ) (ts : Tokens)
    → Along (at_level 2) compared (AtMostMarks n) (Limits (AtMostMarks n) (JoinedUnder n)) ts (λ q. joined q.0 q.1)
compared_along n ts = record {
  intro = λ q us d. compared_is q.0 q.1 us d;
  cases = λ y us r d h. is_compared y us d;
  to = λ q us d k v. v.1;
  from = λ q us d k v. ((λ e. omega (arith, joined_more q.0 q.1, v e)), v);
}

compared_links : Links (optional (item 2)) (Ends 2) (Ends 3)
compared_links None us r d f = let P : Tokens → Type 0 = λ v. Ends 3 (head (v ++ r)) in subst P (sym d)
    (ends_later 2 (head r) f)
compared_links (Some z) us r d f =
    let s = first_sign (sign_of z.0) (at_level 3 z.1) us r d.1 in
    let P : Option Lexeme → Type 0 = Ends 3 in
    subst P (sym s.1) (ends_at 3 z.0 s.0 (omega (arith, d.0)))

abbrev Sum : ℕ → Tokens → Expression → Tokens → Type 0
Sum n ts x rest = Took (at_level 3) (AtMostMarks n) (Ends 3) ts x rest

pub sum_stopped : (n : ℕ) (ts : Tokens) (why : Why) (left : ℕ)
    → Stopped (at_level 3) (AtMostMarks n) (Ends 3) ts why left
    → Stopped (at_level 2) (AtMostMarks n) (Ends 2) ts why left
sum_stopped n ts why left t = stopped_as (at_level 2) compared (λ q. joined q.0 q.1) (compared_along n ts)
    (stopped_first_with (JoinedUnder n) compared_links None [] refl tt (λ k x w. w) t)

pub sum_alone : (n : ℕ) (ts rest : Tokens) (x : Expression) → Sum n ts x rest → NoOperator 2 rest
    → Took (at_level 2) (AtMostMarks n) (Ends 2) ts x rest
sum_alone n ts rest x t none = took_as (at_level 2) compared (λ q. joined q.0 q.1) (compared_along n ts)
    (took_then (JoinedUnder n) compared_links t (left_out (no_item 2 rest none) t.within))

pub compared_over : (n : ℕ) (ts rest more : Tokens) (x : Expression) (o : Op) → Sum n ts x rest
    → IsOperator 2 rest o more → n ≤ marks x → Stopped (at_level 2) (AtMostMarks n) (Ends 2) ts (Over Depth)
    (length rest)
compared_over n ts rest more x o t i many = stopped_as (at_level 2) compared (λ q. joined q.0 q.1) (compared_along n ts)
    (stopped_second (JoinedUnder n) compared_links t
    (full {V = λ k. JoinedUnder n k x} (Over Depth) (goes_on 2 rest more o i)
    (λ z us r d h under. omega (arith, many, under refl))
    (item_goes_on 2 (λ k z. JoinedUnder n k x (Some z)) (λ m y k e. none_before m k e) rest more o i) t.within))

pub compared_stopped : (n m : ℕ) (ts rest more : Tokens) (x : Expression) (o : Op) (why : Why) (left : ℕ)
    → Sum n ts x rest → IsOperator 2 rest o more → m + marks x + 1 ≡ n →
    Stopped (at_level 3) (AtMostMarks m) (Ends 3) more why left
    → Stopped (at_level 2) (AtMostMarks n) (Ends 2) ts why left
compared_stopped n m ts rest more x o why left t i all u = stopped_as (at_level 2) compared (λ q. joined q.0 q.1)
    (compared_along n ts)
    (stopped_second (JoinedUnder n) compared_links t
    (stopped_optional {V = λ k. JoinedUnder n k x} {W = OperandAtMost m} (goes_on 2 rest more o i)
    (λ p f. ends_later 2 p f)
    (λ k z w q. omega (arith, w q, all)) (λ k z w q. omega (arith, w q, all))
    (item_stopped 2 m rest more o why left i u)))

pub compared_took : (n m : ℕ) (ts rest more after : Tokens) (x y next : Expression) (o : Op) → Sum n ts x rest
    → IsOperator 2 rest o more → m + marks x + 1 ≡ n →
    Took (at_level 3) (AtMostMarks m) (Ends 3) more y after → next ≡ Binary o x y
    → Took (at_level 2) (AtMostMarks n) (Ends 2) ts next after
compared_took n m ts rest more after x y next o t i all u e =
    let P : Expression → Type 0 = λ a. Took (at_level 2) (AtMostMarks n) (Ends 2) ts a after in
    subst P (sym e) (took_as (at_level 2) compared (λ q. joined q.0 q.1) (compared_along n ts)
    (took_then (JoinedUnder n) compared_links t
    (took_optional {V = λ k. JoinedUnder n k x} {W = OperandAtMost m} (goes_on 2 rest more o i)
    (λ p f. ends_later 2 p f)
    (λ k z w q. omega (arith, w q, all)) (λ k z w q. omega (arith, w q, all)) (item_took 2 m rest more after o y i u))))
