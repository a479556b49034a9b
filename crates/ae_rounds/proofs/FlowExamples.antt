-- A plan worked out: one task, which takes its cell once, and what may come of it.
use Rattle.std.proofs.Common.{◌≡◌, ◌≤◌, ◌<◌, ◌⊎◌, inl, inr, refl, sym, ◌∙◌, subst, arith, ℕ, zero, suc, true, false}
use Rattle.std.proofs.Common.{List}
use Rattle.std.proofs.Common.{[], ◌∷◌, Some, Contains}
use Rattle.std.specs.Prelude.{slice_get}
use Rattle.ae_rounds.specs.Rounds.{IsEdge, MayRun}
use Rattle.ae_rounds.specs.Flow.{Work, Plan, TaskEnd, Never, Finished, Stopped, Aside, Result, round_of, IsInput}
use Rattle.ae_rounds.specs.Works.{IsWork, MayCarry, NoEdge, IsPlan}
use Rattle.ae_rounds.specs.Flow.{IsEnd, IsOutput, IsGiven, HasAdded, HasDrawn, stamps_in, entries_in, GoesOn, Flow}
use Rattle.ae_text.specs.Numbers.{times}
use Rattle.ae_rounds.proofs.from_text.Basics.{none_is_no_some, empty_has_nothing}

-- An output is the number of times that the task went to its cell, and it draws the stamps 5, 6 and 7.
abbrev work : Work ℕ ℕ ℕ ℕ ℕ
work = record {
  gives = λ x cs o. o ≡ 1;
  pauses = λ x cs b. ⊥;
  ready = λ x cs. cs ≡ [];
  names = λ b k. k ≡ 0;
  carry = λ o e. o;
  stops = λ o. false;
  began = λ o. 5;
  ended = λ o. 7;
  input_entries = λ x k. [];
  output_entries = λ o k. 6 ∷ [];
  body_entries = λ b k. [];
  input_stamps = λ x. [];
  carry_stamps = λ c. [];
  output_stamps = λ o. 5 ∷ 6 ∷ 7 ∷ [];
  body_stamps = λ b. [];
  stamp = λ e. e;
}

abbrev plan : Plan ℕ ℕ
plan = record { tasks = record { own = 0; may = true } ∷ []; edges = []; cells = (3 ∷ []) ∷ []; clock = 5 }

abbrev result : Result ℕ ℕ ℕ ℕ
result = record { tasks = Finished 1 ∷ []; cells = (3 ∷ 6 ∷ []) ∷ []; clock = 8 }

-- ---- the one task

some_end : (e d : TaskEnd ℕ ℕ ℕ) → Some d ≡ Some e → e ≡ d
some_end e d i = cc

one_end : (t : ℕ) (e : TaskEnd ℕ ℕ ℕ) → IsEnd result t e → (t ≡ 0) × (e ≡ Finished 1)
one_end zero e i = (refl, some_end e (Finished 1) i)
one_end (suc t) e i = absurd (none_is_no_some i)

went : (e : TaskEnd ℕ ℕ ℕ) (o : ℕ) → e ≡ Finished o → e ≡ Finished 1 → o ≡ 1
went e o p q = cc

not_stopped : (e : TaskEnd ℕ ℕ ℕ) (o : ℕ) → e ≡ Stopped o → e ≡ Finished 1 → ⊥
not_stopped e o p q = cc

not_never : (e : TaskEnd ℕ ℕ ℕ) (x : ℕ) → e ≡ Never x → e ≡ Finished 1 → ⊥
not_never e x p q = cc

not_aside : (e : TaskEnd ℕ ℕ ℕ) (b : ℕ) → e ≡ Aside b → e ≡ Finished 1 → ⊥
not_aside e b p q = cc

is_output : (t o : ℕ) → IsOutput result t o → (t ≡ 0) × (o ≡ 1)
is_output t o (inl i) = let p : (t ≡ 0) × (Finished o ≡ Finished 1) = one_end t
    (Finished o) i in (p.0, went (Finished o) o refl p.1)
is_output t o (inr i) = absurd (not_stopped (Stopped o) o refl (one_end t (Stopped o) i).1)

no_edge : (f t : ℕ) → IsEdge (round_of plan) f t → ⊥
no_edge f t (k, l, e) = omega (arith, l)

may_run : (t : ℕ) → t ≡ 0 → MayRun (round_of plan) t
may_run t q = subst (MayRun (round_of plan)) (sym q) (omega arith, refl)

is_given : (t : ℕ) → t ≡ 0 → IsGiven work plan result t 0 []
is_given t q = (subst (λ u. IsInput plan u 0) (sym q) refl, refl)

-- ---- its stamps and its entry

-- the stamps 5, 6 and 7 and no others, each once
is_stamp : (s : ℕ) → Contains (5 ∷ 6 ∷ 7 ∷ []) s → (s ≡ 5) ⊎ (s ≡ 6) ⊎ (s ≡ 7)
is_stamp s (zero, l, e) = inl (sym e)
is_stamp s (suc zero, l, e) = inr (inl (sym e))
is_stamp s (suc (suc zero), l, e) = inr (inr (sym e))
is_stamp s (suc (suc (suc k)), l, e) = absurd (omega (arith, l))

stamp_once : (s : ℕ) → (s ≡ 5) ⊎ (s ≡ 6) ⊎ (s ≡ 7) → times s (5 ∷ 6 ∷ 7 ∷ []) ≡ 1
stamp_once s (inl e) = subst (λ n. times n (5 ∷ 6 ∷ 7 ∷ []) ≡ 1) (sym e) refl
stamp_once s (inr (inl e)) = subst (λ n. times n (5 ∷ 6 ∷ 7 ∷ []) ≡ 1) (sym e) refl
stamp_once s (inr (inr e)) = subst (λ n. times n (5 ∷ 6 ∷ 7 ∷ []) ≡ 1) (sym e) refl

stamp_between : (s : ℕ) → (s ≡ 5) ⊎ (s ≡ 6) ⊎ (s ≡ 7) → (5 ≤ s) × (s ≤ 7)
stamp_between s (inl e) = (omega (arith, e), omega (arith, e))
stamp_between s (inr (inl e)) = (omega (arith, e), omega (arith, e))
stamp_between s (inr (inr e)) = (omega (arith, e), omega (arith, e))

drawn : (t s : ℕ) → HasDrawn work plan result t s → (t ≡ 0) × Contains (5 ∷ 6 ∷ 7 ∷ []) s
drawn t s d =
    let p : (t ≡ 0) × (d.2 ≡ Finished 1) = one_end t d.2 d.4 in
    (p.0, subst (λ e. Contains (stamps_in work e) s) p.1 d.6)

draws : (t s : ℕ) → t ≡ 0 → Contains (5 ∷ 6 ∷ 7 ∷ []) s → HasDrawn work plan result t s
draws t s q h = (
  0,
  [],
  Finished 1,
  is_given t q,
  subst (λ u. IsEnd result u (Finished 1)) (sym q) refl,
  tt,
  h,
  (λ m. nothing m, λ c m k. no_carry c m),
)
  where
    nothing : Contains [] s → ⊥
    nothing (k, l, e) = omega (arith, l)

    no_carry : (c : ℕ) → Contains [] c → ⊥
    no_carry c (k, l, e) = omega (arith, l)

has_added : (t k : ℕ) (es : List ℕ) → HasAdded work plan result t k es → (t ≡ 0) × (es ≡ 6 ∷ [])
has_added t k es h =
    let p : (t ≡ 0) × (h.1 ≡ Finished 1) = one_end t h.1 h.3 in
    (p.0, sym (subst (λ e. entries_in work e k ≡ es) p.1 h.4))

first_place : (i e : ℕ) → slice_get (6 ∷ []) i ≡ Some e → i ≡ 0
first_place zero e h = refl
first_place (suc i) e h = absurd (none_is_no_some h)

goes_on : (k : ℕ) → GoesOn work plan result k (3 ∷ []) (3 ∷ 6 ∷ [])
goes_on k =
    record {
      added = 6 ∷ [];
      whole = refl;
      rising = tt;
      exact = λ e. (
        (λ h. (0, 6 ∷ [], (0, Finished 1, refl, refl, refl), h)),
        (λ x. subst (λ xs. Contains xs e) (has_added x.0 k x.1 x.2).1 x.3),
      );
      once = λ t u i j es fs e g h m n. (
        ((has_added t k es g).0 ∙ sym (has_added u k fs h).0),
        (first_place i e (subst (λ xs. slice_get xs i ≡ Some e) (has_added t k es g).1 m)
            ∙ sym (first_place j e (subst (λ xs. slice_get xs j ≡ Some e) (has_added u k fs h).1 n))),
      );
    }

-- ---- the result may come of the plan

old_is : (xs old : List ℕ) → Some xs ≡ Some old → xs ≡ old
old_is xs old h = cc

cells : (k : ℕ) (old new : List ℕ) → slice_get plan.cells k ≡ Some old → slice_get result.cells k ≡ Some new
    → GoesOn work plan result k old new
cells zero old new g h = subst (λ n. GoesOn work plan result 0 old n) (old_is (3 ∷ 6 ∷ []) new h)
    (subst (λ o. GoesOn work plan result 0 o (3 ∷ 6 ∷ [])) (old_is (3 ∷ []) old g) (goes_on 0))
cells (suc k) old new g h = absurd (none_is_no_some g)

may_come : Flow work plan result
may_come =
    record {
      all_tasks = refl;
      all_cells = refl;
      begun_may = λ t e i b. may_run t (one_end t e i).0;
      begun_passed = λ t f e i b g. absurd (no_edge f t g);
      outputs = λ t o i. (0, [], is_given t (is_output t o i).0, (is_output t o i).1);
      finished = λ t o i. refl;
      stopped = λ t o i. absurd (not_stopped (Stopped o) o refl (one_end t (Stopped o) i).1);
      bodies = λ t b i. absurd (not_aside (Aside b) b refl (one_end t (Aside b) i).1);
      never = λ t x i. absurd (not_never (Never x) x refl (one_end t (Never x) i).1);
      cells = cells;
      drawn_by_one = λ t u s d e. (drawn t s d).0 ∙ sym (drawn u s e).0;
      drawn_once = λ t s e d i. subst (λ x. times s (stamps_in work x) ≡ 1) (sym (one_end t e i).1)
          (stamp_once s (is_stamp s (drawn t s d).1));
      began_before = λ t o i. omega arith;
      in_time = λ t s d. let p : (5 ≤ s) × (s ≤ 7) = stamp_between s
          (is_stamp s (drawn t s d).1) in (p.0, omega (arith, p.1));
      clock = omega arith;
      above = λ f t s z o g d i h. absurd (no_edge f t g);
      began_drawn = λ t o i. draws t 5 (is_output t o i).0 (0, omega arith, refl);
      ended_drawn = λ t o i. draws t 7 (is_output t o i).0 (2, omega arith, refl);
      began_least = λ t s o i d. (stamp_between s (is_stamp s (drawn t s d).1)).0;
      ended_greatest = λ t s o i d. (stamp_between s (is_stamp s (drawn t s d).1)).1;
    }

-- ---- what the work keeps to, and the plan meets

is_work : IsWork work
is_work = record {
  input_stamped = λ x k e c. absurd (empty_has_nothing e c);
  output_stamped = λ o k e c. (1, omega arith, is_six e c);
  body_stamped = λ b k e c. absurd (empty_has_nothing e c);
  carry_stamped = λ o n s c. absurd (empty_has_nothing s c);
  has_began = λ o. (0, omega arith, refl);
  has_ended = λ o. (2, omega arith, refl);
  gives_more = λ x cs o k g. (6 ∷ [], refl);
  pauses_more = λ x cs b k g. absurd g;
  gives_later = λ x cs o k es e g q c. (λ s d. absurd (empty_has_nothing s d), λ y d s f. absurd (empty_has_nothing s f));
  pauses_later = λ x cs b k es e g. absurd g;
}
  where
    is_six : (e : ℕ) → Contains (6 ∷ []) e → 6 ≡ e
    is_six e (zero, l, q) = q
    is_six e (suc k, l, q) = absurd (omega (arith, l))

-- no edge brings a carry
no_carries : (cs : List ℕ) → MayCarry work plan [] cs → cs ≡ []
no_carries cs NoEdge = refl

old_stamp : (k : ℕ) (es : List ℕ) (e : ℕ) → slice_get plan.cells k ≡ Some es → Contains es e → e < 5
old_stamp zero es e i c = is_three (subst (λ xs. Contains xs e) (sym (old_is (3 ∷ []) es i)) c)
  where
    is_three : Contains (3 ∷ []) e → e < 5
    is_three (zero, l, q) = subst (λ n. n < 5) q (omega arith)
    is_three (suc k, l, q) = absurd (omega (arith, l))
old_stamp (suc k) es e i c = absurd (none_is_no_some i)

is_plan : IsPlan work plan
is_plan = record {
  shape = λ t u g. absurd (no_edge t u g);
  once = λ i j e g h. absurd (none_is_no_some g);
  ready = λ t x cs m i c. no_carries cs c;
  cells = λ t x cs b k i g. absurd g;
  inputs_before = λ t x i s c. absurd (empty_has_nothing s c);
  cells_before = old_stamp;
}
