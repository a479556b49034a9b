-- Which statements are ready, and when none is left.
use Rattle.std.proofs.Common.{◌≡◌, ◌≢◌, ◌<◌, ◌≤◌, ◌+◌, ◌⊎◌, inl, inr, ℕ, nat_eq, if◌then◌else◌, Bool, true, false}
use Rattle.std.proofs.Common.{not, List, [], ◌∷◌, length, get_or, set, count_by, IsPermutation, refl, ap, sym}
use Rattle.std.proofs.Common.{◌∙◌, arith, subst}
use Rattle.std.proofs.lemmas.List.{get_or_past, get_or_default}
use Rattle.std.proofs.lemmas.List.Sums.{sum_by-set}
use Rattle.std.proofs.lemmas.Bool.{cases_eq, cases_order, ne_eqb, not-false}
use Rattle.std.proofs.lemmas.Bool.Decides.{nat_tests}
use Rattle.ae_rules.specs.Edges.{BlockUses}
use Rattle.ae_graph.specs.Graph.{Graph, preds_in, IsGraphOf, AreSuccs}
use Rattle.ae_run.specs.declared.course.Fate.{Fate}
use Rattle.ae_run.specs.declared.course.Fate.TheVariants as fate
use Rattle.ae_run.specs.Flow.{IsReady}
use Rattle.ae_run.specs.Queue.{zero_as_one, waits_of, AreWaits, AreReady}
use Rattle.ae_run.specs.Course.{is_went, is_taken, fate_at, went, was_taken, Settles, IsOver}
use Rattle.ae_run.proofs.Lists.{times_popped}
use Rattle.ae_run.proofs.Counts.{none_counted, count_none, count_all, count_change, times_edges, no_edges}
use Rattle.ae_run.proofs.Courses.{fate_here, fate_other, untaken_left}
use Rattle.ae_text.specs.Numbers.{times}
use Rattle.ae_run.proofs.from_text.Basics.{number_is_itself}

abbrev unit : Bool → ℕ
unit b = if b then 1 else 0

zero_most : (n : ℕ) → zero_as_one n ≤ 1
zero_most n = grind (arith, nat_tests)

one_is_zero : (n : ℕ) → zero_as_one n ≡ 1 → n ≡ 0
one_is_zero n h = grind (arith, nat_tests)

zero_is_one : (n : ℕ) → n ≡ 0 → zero_as_one n ≡ 1
zero_is_one n h = grind (arith, nat_tests)

unit_false : (b : Bool) → unit b ≡ 0 → b ≡ false
unit_false true h = absurd (cc)
unit_false false h = refl

unit_true : (b : Bool) → unit b ≡ 1 → b ≡ true
unit_true true h = refl
unit_true false h = absurd (cc)

-- ---- a statement is taken

pub record Taken (fs : List Fate) (waits : List ℕ) (j : ℕ) : Type 0 where
  pub untaken : was_taken fs j ≡ false
  pub within : j < length waits
  pub none : get_or waits j 0 ≡ 0

pub taken_now : (fs : List Fate) (waits ready rest : List ℕ) (j : ℕ) → AreReady (was_taken fs) waits ready
    → IsPermutation ready (j ∷ rest) → Taken fs waits j
taken_now fs waits ready rest j r p =
    let t : times j rest + unit (nat_eq j j) ≡ times j ready = times_popped j j ready rest p in
    let u : unit (nat_eq j j) ≡ 1 = ap unit (number_is_itself j) in
    let e : times j ready + unit (was_taken fs j) ≡ zero_as_one (waits_of waits j) = r j in
    let m : zero_as_one (waits_of waits j) ≤ 1 = zero_most (waits_of waits j) in
    let a : unit (was_taken fs j) ≡ 0 = omega arith in
    let z : waits_of waits j ≡ 0 = one_is_zero (waits_of waits j) (omega arith) in
    let l : j < length waits = elim (cases_order j (length waits)) [
      | inl q ↦ let past : length waits ≤ j = omega arith in let o : waits_of waits j ≡ 1 = get_or_past waits j
          1 past in absurd (omega arith)
      | inr o ↦ elim o [
        | inl s ↦ s
        | inr s ↦ let past : length waits ≤ j = omega arith in let o2 : waits_of waits j ≡ 1 = get_or_past waits j
            1 past in absurd (omega arith)
      ]
    ] in
    record { untaken = unit_false (was_taken fs j) a; within = l; none = get_or_default waits j 0 1 l ∙ z }

pub ready_now : (uses : BlockUses) (size : ℕ) (g : Graph) → IsGraphOf uses size g
    → (fs : List Fate) (waits : List ℕ) (j : ℕ)
    → AreWaits g (went fs) waits → Taken fs waits j → IsReady uses (went fs) j
ready_now uses size g graph fs waits j w t =
    let l : j < length g = subst (λ n. j < n) w.size t.within in
    let c : count_by (λ i. not (went fs i)) (preds_in g j) ≡ 0 = sym (w.counts j l) ∙ t.none in
    record {
      left = untaken_left (fate_at fs j) t.untaken;
      waits = λ i e. not-false (went fs i)
          (none_counted (λ i. not (went fs i)) (preds_in g j) i c (((graph.1 j l).exact i).1 e));
    }

-- ---- its turn came

taken_here : (fs gs : List Fate) (j : ℕ) (through : Bool) → j < length fs → was_taken fs j ≡ false
    → Settles fs gs j through
    → (i : ℕ) → unit (was_taken gs i) ≡ unit (was_taken fs i) + unit (nat_eq j i)
taken_here fs gs j through l u s i =
    subst (λ (x : List Fate). unit (was_taken x i) ≡ unit (was_taken fs i) + unit (nat_eq j i)) (sym s.is)
    (elim (cases_eq i j) [
      | inl e ↦
          let a : was_taken (set fs j s.fate) i ≡ true = ap (was_taken (set fs j s.fate)) e
          ∙ ap is_taken (fate_here fs j s.fate l) ∙ s.taken in
          let b : was_taken fs i ≡ false = ap (was_taken fs) e ∙ u in
          let c : nat_eq j i ≡ true = subst (λ (x : ℕ). nat_eq j x ≡ true) (sym e) (number_is_itself j) in
          ap unit a ∙ sym (ap (λ (x : Bool). unit x + unit (nat_eq j i)) b ∙ ap (λ (x : Bool). 0 + unit x) c)
      | inr n ↦
          let a : unit (was_taken (set fs j s.fate) i) ≡ unit (was_taken fs i) = ap (λ x. unit (is_taken x))
          (fate_other fs j s.fate i n) in
          let c : unit (nat_eq j i) ≡ 0 = ap unit (ne_eqb j i (λ q. n (sym q))) in
          omega arith
    ])

-- the list without the statement fits what became of it
pub ready_rest : (fs gs : List Fate) (waits ready rest : List ℕ) (j : ℕ) (through : Bool) → j < length fs
    → was_taken fs j ≡ false
    → AreReady (was_taken fs) waits ready → IsPermutation ready (j ∷ rest) → Settles fs gs j through
    → AreReady (was_taken gs) waits rest
ready_rest fs gs waits ready rest j through l u r p s = λ i.
    let t : times i rest + unit (nat_eq j i) ≡ times i ready = times_popped i j ready rest p in
    let a : unit (was_taken gs i) ≡ unit (was_taken fs i) + unit (nat_eq j i) = taken_here fs gs j through l u s i in
    let e : times i ready + unit (was_taken fs i) ≡ zero_as_one (waits_of waits i) = r i in
    omega arith

went_here : (fs gs : List Fate) (j : ℕ) (through : Bool) → j < length fs → Settles fs gs j through → went gs j ≡ through
went_here fs gs j through l s = ap (λ (x : List Fate). went x j) s.is ∙ ap is_went (fate_here fs j s.fate l) ∙ s.went

went_other : (fs gs : List Fate) (j : ℕ) (through : Bool) → Settles fs gs j through → (k : ℕ) → k ≢ j
    → went gs k ≡ went fs k
went_other fs gs j through s k n = ap (λ (x : List Fate). went x k) s.is ∙ ap is_went (fate_other fs j s.fate k n)

-- it did not go through
pub waits_kept : (g : Graph) (fs gs : List Fate) (waits : List ℕ) (j : ℕ) → j < length fs → was_taken fs j ≡ false
    → Settles fs gs j false → AreWaits g (went fs) waits → AreWaits g (went gs) waits
waits_kept g fs gs waits j l u s w =
    let same : (k : ℕ) → (k ≡ j) ⊎ (k ≢ j) → went fs k ≡ went gs k = λ k o. elim o [
      | inl e ↦ ap (went fs) e ∙ untaken_left (fate_at fs j) u ∙ sym (ap (went gs) e ∙ went_here fs gs j false l s)
      | inr n ↦ sym (went_other fs gs j false s k n)
    ] in
    let f : went fs ≡ went gs = λ x. λ k. same k (cases_eq k j) x in
    subst (λ (p : ℕ → Bool). AreWaits g p waits) f w

-- it went through: each statement waits for it as often as it stands behind it
waits_before : (uses : BlockUses) (size : ℕ) (g : Graph) → IsGraphOf uses size g
    → (fs gs : List Fate) (waits succs : List ℕ) (j : ℕ)
    → j < length fs → was_taken fs j ≡ false → Settles fs gs j true → AreWaits g (went fs) waits
    → AreSuccs g j succs → (i : ℕ) → i < length g → get_or waits i 0 ≡ count_by (λ k. not (went gs k)) (preds_in g i)
    + times i succs
waits_before uses size g graph fs gs waits succs j l u s w a i m =
    w.counts i m
    ∙ count_change (λ k. not (went fs k)) (λ k. not (went gs k)) j (preds_in g i)
    (ap not (untaken_left (fate_at fs j) u)) (ap not (went_here fs gs j true l s))
    (λ k n. ap not (went_other fs gs j true s k n))
    ∙ ap (λ n. count_by (λ k. not (went gs k)) (preds_in g i) + n) (times_edges uses g j i succs (graph.1 i m) a)

lt_or_past : (i n : ℕ) → (i < n) ⊎ (n ≤ i)
lt_or_past i n = elim (cases_order i n)
    [ inl e ↦ inr (omega arith) | inr o ↦ elim o [ inl l ↦ inl l | inr l ↦ inr (omega arith) ] ]

room_at : (uses : BlockUses) (size : ℕ) (g : Graph) → IsGraphOf uses size g
    → (fs gs : List Fate) (waits succs : List ℕ) (j : ℕ)
    → j < length fs → was_taken fs j ≡ false → Settles fs gs j true → AreWaits g (went fs) waits
    → AreSuccs g j succs → (i : ℕ) → (i < length g) ⊎ (length g ≤ i) → times i succs ≤ get_or waits i 0
room_at uses size g graph fs gs waits succs j l u s w a i (inl m) = let e = waits_before uses size g graph fs gs
    waits succs j l u s w
    a i m in omega arith
room_at uses size g graph fs gs waits succs j l u s w a i (inr m) =
    let z : times i succs ≡ 0 = no_edges g j i succs (get_or_past g i [] m) a in
    omega arith

pub room : (uses : BlockUses) (size : ℕ) (g : Graph) → IsGraphOf uses size g
    → (fs gs : List Fate) (waits succs : List ℕ) (j : ℕ)
    → j < length fs → was_taken fs j ≡ false → Settles fs gs j true → AreWaits g (went fs) waits
    → AreSuccs g j succs → (i : ℕ) → times i succs ≤ get_or waits i 0
room uses size g graph fs gs waits succs j l u s w a i = room_at uses size g graph fs gs waits succs j l u s w a i
    (lt_or_past i (length g))

pub waits_after : (uses : BlockUses) (size : ℕ) (g : Graph) → IsGraphOf uses size g
    → (fs gs : List Fate) (waits succs : List ℕ) (j : ℕ)
    → j < length fs → was_taken fs j ≡ false → Settles fs gs j true → AreWaits g (went fs) waits
    → AreSuccs g j succs → (now : List ℕ) → length now ≡ length waits
    → ((i : ℕ) → waits_of now i + times i succs ≡ waits_of waits i) → AreWaits g (went gs) now
waits_after uses size g graph fs gs waits succs j l u s w a now n h = record {
  size = n ∙ w.size;
  counts = λ i m.
      let e : get_or waits i 0 ≡ count_by (λ k. not (went gs k)) (preds_in g i) + times i succs =
      waits_before uses size g graph fs gs waits succs j l u s w a i m in
      let m1 : i < length waits = subst (λ x. i < x) (sym w.size) m in
      let m2 : i < length now = subst (λ x. i < x) (sym n) m1 in
      let d : get_or waits i 0 ≡ waits_of waits i = get_or_default waits i 0 1 m1 in
      let f : get_or now i 0 ≡ waits_of now i = get_or_default now i 0 1 m2 in
      let k : waits_of now i + times i succs ≡ waits_of waits i = h i in
      omega arith;
}

pub ready_after : (fs : List Fate) (waits now ready later : List ℕ) → AreReady (was_taken fs) waits ready
    → ((i : ℕ) → times i later + zero_as_one (waits_of waits i) ≡ times i ready + zero_as_one (waits_of now i))
    → AreReady (was_taken fs) now later
ready_after fs waits now ready later r h = λ i.
    let e : times i ready + unit (was_taken fs i) ≡ zero_as_one (waits_of waits i) = r i in
    let k : times i later + zero_as_one (waits_of waits i) ≡ times i ready + zero_as_one (waits_of now i) = h i in
    omega arith

-- ---- the beginning, the measure and the end

pub fresh_waits : (g : Graph) (fs : List Fate) (waits : List ℕ) → length waits ≡ length g
    → ((j : ℕ) → fate_at fs j ≡ fate.Waiting) → ((j : ℕ) → j < length g → get_or waits j 0 ≡ length (preds_in g j))
    → AreWaits g (went fs) waits
fresh_waits g fs waits n w h = record {
  size = n;
  counts = λ j l. h j l ∙ sym (count_all (λ i. not (went fs i)) (preds_in g j) (λ i. ap (λ x. not (is_went x)) (w i)));
}

pub fresh_ready : (fs : List Fate) (waits ready : List ℕ) → ((j : ℕ) → fate_at fs j ≡ fate.Waiting)
    → ((j : ℕ) → times j ready ≡ zero_as_one (waits_of waits j)) → AreReady (was_taken fs) waits ready
fresh_ready fs waits ready w h = λ j.
    let u : unit (was_taken fs j) ≡ 0 = ap (λ x. unit (is_taken x)) (w j) in
    let e : times j ready ≡ zero_as_one (waits_of waits j) = h j in
    omega arith

abbrev pub open_count : List Fate → ℕ
open_count fs = count_by (λ f. not (is_taken f)) fs

pub fewer_open : (fs gs : List Fate) (j : ℕ) (through : Bool) → j < length fs → was_taken fs j ≡ false
    → Settles fs gs j through → open_count gs < open_count fs
fewer_open fs gs j through l u s =
    let e : open_count (set fs j s.fate) + unit (not (was_taken fs j)) ≡ open_count fs + unit (not (is_taken s.fate))
    = sum_by-set (λ f. if not (is_taken f) then 1 else 0) fs j s.fate fate.Waiting l in
    let a : unit (not (was_taken fs j)) ≡ 1 = ap (λ x. unit (not x)) u in
    let b : unit (not (is_taken s.fate)) ≡ 0 = ap (λ x. unit (not x)) s.taken in
    let c : open_count gs ≡ open_count (set fs j s.fate) = ap open_count s.is in
    omega arith

pub over : (g : Graph) (fs : List Fate) (waits ready : List ℕ) → AreWaits g (went fs) waits
    → AreReady (was_taken fs) waits ready → length ready ≡ 0 → IsOver g fs
over g fs waits [] w r n = λ j l h.
    let c : get_or waits j 0 ≡ 0 = w.counts j l ∙ count_none (λ i. not (went fs i)) (preds_in g j)
    (λ i k. ap not (h i k)) in
    let m : j < length waits = subst (λ x. j < x) (sym w.size) l in
    let d : waits_of waits j ≡ 0 = sym (get_or_default waits j 0 1 m) ∙ c in
    let z : zero_as_one (waits_of waits j) ≡ 1 = zero_is_one (waits_of waits j) d in
    let e : times j [] + unit (was_taken fs j) ≡ zero_as_one (waits_of waits j) = r j in
    let t : times j [] ≡ 0 = refl
    in unit_true (was_taken fs j) (omega arith)
over g fs waits (x ∷ ready) w r n = absurd (omega arith)
