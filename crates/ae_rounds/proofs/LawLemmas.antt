-- Proofs of the laws of rounds.
use Rattle.std.proofs.Common.{◌≡◌, ◌≢◌, ◌<◌, ◌≤◌, ◌⊎◌, inl, inr, refl, sym, ap, ◌∙◌, subst, arith, ℕ, zero, suc}
use Rattle.std.proofs.Common.{nat_eq, if◌then◌else◌, Bool, true, false, List, [], ◌∷◌, Option, None, Some}
use Rattle.std.proofs.lemmas.Bool.{cases_eq, cond-true, cond-false, false≢true, ne_eqb}
use Rattle.std.proofs.lemmas.Bool.Decides.{nat_tests}
use Rattle.ae_rounds.specs.Rounds.{Round, IsShape, IsWay, MayRun, Stage, Waiting, Running, Finished, Aside}
use Rattle.ae_rounds.specs.Rounds.{Configuration, ArePassed, RoundEvent, Begin, Finish, Take, Leave, SetAside}
use Rattle.ae_rounds.specs.Rounds.{HasHandsFree, Needs, put, released, ended_as, changed, Happens, Course, Lawful}
use Rattle.ae_rounds.specs.Rounds.{IsSound, IsCalm}
use Rattle.ae_rounds.specs.Laws.{ChainsRise, EventsKeep, LawfulIsFree, ReachedIsFree, SoundIsCalm, BegunStays}
use Rattle.ae_rounds.specs.Laws.{begins, BeginsOnce}
use Rattle.ae_rounds.proofs.from_text.Basics.{number_is_itself, none_is_no_some}

-- ---- functions changed at one number

pub put_here : {A : Type 0} (k : ℕ) (x : A) (f : ℕ → A) → put k x f k ≡ x
put_here k x f = cond-true (nat_eq k k) x (f k) (number_is_itself k)

pub put_past : {A : Type 0} (k n : ℕ) (x : A) (f : ℕ → A) → n ≢ k → put k x f n ≡ f n
put_past k n x f d = cond-false (nat_eq n k) x (f n) (ne_eqb n k d)

-- what stands at n after a change at k: the new value, or what stood there
pub data At {A : Type 0} (k : ℕ) (x : A) (f : ℕ → A) (n : ℕ) (w : A) : Type 0 where
  Here : n ≡ k → x ≡ w → At k x f n w
  Past : n ≢ k → f n ≡ w → At k x f n w

pub at_put : {A : Type 0} (k : ℕ) (x : A) (f : ℕ → A) (n : ℕ) (w : A) → put k x f n ≡ w → At k x f n w
at_put k x f n w e =
    elim (cases_eq n k) [
      | inl q ↦ Here q (sym (put_here k x f) ∙ ap (put k x f) (sym q) ∙ e)
      | inr d ↦ Past d (sym (put_past k n x f d) ∙ e)
    ]

-- ---- each event

-- what was passed stays so, where a task changes that was not finished
passed_stays : (r : Round) (c : Configuration) (t u : ℕ) (x : Stage) (held : ℕ → Bool) (runs holds : ℕ → Option ℕ)
    → c.stage t ≢ Finished → ArePassed r c u
    → ArePassed r (record { stage = put t x c.stage; held = held; runs = runs; holds = holds }) u
passed_stays r c t u x held runs holds n p v g =
    put_past t v x c.stage (λ (q : v ≡ t). n (subst (λ w. c.stage w ≡ Finished) q (p v g))) ∙ p v g

waiting_runs_not : Waiting ≡ Running → ⊥
waiting_runs_not e = cc

waiting_is_no_finish : Waiting ≡ Finished → ⊥
waiting_is_no_finish e = cc

running_is_no_finish : Running ≡ Finished → ⊥
running_is_no_finish e = cc

some_same : {A : Type 0} {x y : A} → Some x ≡ Some y → x ≡ y
some_same e = cc

begin_keeps : (r : Round) (c : Configuration) (s t : ℕ) → Lawful r c → Needs r c (Begin s t)
    → Lawful r (changed c (Begin s t))
begin_keeps r c s t l n =
    record {
      running_is_run = λ u e. run_of u (at_put t Running c.stage u Running e);
      run_by_one = λ u x y e f. by_one u x y (at_put s (Some t) c.runs x (Some u) e)
          (at_put s (Some t) c.runs y (Some u) f);
      run_is_running = λ x u e. is_running x u (at_put s (Some t) c.runs x (Some u) e);
      held_is_kept = l.held_is_kept;
      kept_by_one = l.kept_by_one;
      kept_is_held = l.kept_is_held;
      idle_holds_none = λ x e. holds_none x (at_put s (Some t) c.runs x None e);
      begun_may = λ u e. may u e (cases_eq u t);
      begun_passed = λ u e. passed_stays r c t u Running c.held (put s (Some t) c.runs) c.holds not_finished
          (old_passed u e (cases_eq u t));
    }
  where
    not_finished : c.stage t ≢ Finished
    not_finished e = waiting_is_no_finish (sym n.2 ∙ e)

    run_of : (u : ℕ) → At t Running c.stage u Running → (x : ℕ) × (put s (Some t) c.runs x ≡ Some u)
    run_of u (Here q e) = (s, put_here s (Some t) c.runs ∙ ap Some (sym q))
    run_of u (Past d e) =
        let x : (y : ℕ) × (c.runs y ≡ Some u) = l.running_is_run u e in (
          x.0,
          put_past s x.0 (Some t) c.runs (λ (q : x.0 ≡ s). none_is_no_some (sym n.0 ∙ ap c.runs (sym q) ∙ x.1))
              ∙ x.1,
        )

    not_run : (x : ℕ) → c.runs x ≡ Some t → ⊥
    not_run x e = waiting_runs_not (sym n.2 ∙ l.run_is_running x t e)

    by_one : (u x y : ℕ) → At s (Some t) c.runs x (Some u) → At s (Some t) c.runs y (Some u) → x ≡ y
    by_one u x y (Here p e) (Here q f) = p ∙ sym q
    by_one u x y (Here p e) (Past q f) = absurd (not_run y (f ∙ sym e))
    by_one u x y (Past p e) (Here q f) = absurd (not_run x (e ∙ sym f))
    by_one u x y (Past p e) (Past q f) = l.run_by_one u x y e f

    is_running : (x u : ℕ) → At s (Some t) c.runs x (Some u) → put t Running c.stage u ≡ Running
    is_running x u (Here p e) = ap (put t Running c.stage) (sym (some_same e)) ∙ put_here t Running c.stage
    is_running x u (Past p e) =
        put_past t u Running c.stage (λ (q : u ≡ t). not_run x (e ∙ ap Some q)) ∙ l.run_is_running x u e

    holds_none : (x : ℕ) → At s (Some t) c.runs x None → c.holds x ≡ None
    holds_none x (Here p e) = absurd (none_is_no_some (sym e))
    holds_none x (Past p e) = l.idle_holds_none x e

    may : (u : ℕ) → put t Running c.stage u ≢ Waiting → (u ≡ t) ⊎ (u ≢ t) → MayRun r u
    may u e (inl q) = subst (MayRun r) (sym q) n.1
    may u e (inr d) = l.begun_may u (λ (w : c.stage u ≡ Waiting). e (put_past t u Running c.stage d ∙ w))

    old_passed : (u : ℕ) → put t Running c.stage u ≢ Waiting → (u ≡ t) ⊎ (u ≢ t) → ArePassed r c u
    old_passed u e (inl q) = subst (ArePassed r c) (sym q) n.3
    old_passed u e (inr d) = l.begun_passed u (λ (w : c.stage u ≡ Waiting). e (put_past t u Running c.stage d ∙ w))

-- a task that a seat runs gets another stage, and the seat runs none
release_keeps : (r : Round) (c : Configuration) (s t : ℕ) (x : Stage) → x ≢ Running → Lawful r c → c.runs s ≡ Some t
    → c.holds s ≡ None → Lawful r (released c s (Some t) x)
release_keeps r c s t x n l i h =
    record {
      running_is_run = λ u e. run_of u (at_put t x c.stage u Running e);
      run_by_one = λ u y z e f. l.run_by_one u y z (old_run u y (at_put s None c.runs y (Some u) e))
          (old_run u z (at_put s None c.runs z (Some u) f));
      run_is_running = λ y u e. is_running y u (at_put s None c.runs y (Some u) e);
      held_is_kept = l.held_is_kept;
      kept_by_one = l.kept_by_one;
      kept_is_held = l.kept_is_held;
      idle_holds_none = λ y e. holds_none y (at_put s None c.runs y None e);
      begun_may = λ u e. l.begun_may u (begun u e (cases_eq u t));
      begun_passed = λ u e. passed_stays r c t u x c.held (put s None c.runs) c.holds not_finished
          (l.begun_passed u (begun u e (cases_eq u t)));
    }
  where
    runs_now : c.stage t ≡ Running
    runs_now = l.run_is_running s t i

    not_finished : c.stage t ≢ Finished
    not_finished e = running_is_no_finish (sym runs_now ∙ e)

    run_of : (u : ℕ) → At t x c.stage u Running → (y : ℕ) × (put s None c.runs y ≡ Some u)
    run_of u (Here q e) = absurd (n e)
    run_of u (Past d e) =
        let y : (z : ℕ) × (c.runs z ≡ Some u) = l.running_is_run u e in
        (y.0, put_past s y.0 None c.runs (λ (q : y.0 ≡ s). d (some_same (sym y.1 ∙ ap c.runs q ∙ i))) ∙ y.1)

    old_run : (u y : ℕ) → At s None c.runs y (Some u) → c.runs y ≡ Some u
    old_run u y (Here q e) = absurd (none_is_no_some e)
    old_run u y (Past d e) = e

    is_running : (y u : ℕ) → At s None c.runs y (Some u) → put t x c.stage u ≡ Running
    is_running y u (Here q e) = absurd (none_is_no_some e)
    is_running y u (Past d e) =
        put_past t u x c.stage (λ (q : u ≡ t). d (l.run_by_one t y s (e ∙ ap Some q) i)) ∙ l.run_is_running y u e

    holds_none : (y : ℕ) → At s None c.runs y None → c.holds y ≡ None
    holds_none y (Here q e) = ap c.holds q ∙ h
    holds_none y (Past d e) = l.idle_holds_none y e

    begun : (u : ℕ) → put t x c.stage u ≢ Waiting → (u ≡ t) ⊎ (u ≢ t) → c.stage u ≢ Waiting
    begun u e (inl q) w = waiting_runs_not (sym w ∙ ap c.stage q ∙ runs_now)
    begun u e (inr d) w = e (put_past t u x c.stage d ∙ w)

released_keeps : (r : Round) (c : Configuration) (s : ℕ) (x : Stage) → x ≢ Running → Lawful r c → HasHandsFree c s
    → Lawful r (released c s (c.runs s) x)
released_keeps r c s x n l h = subst (λ o. Lawful r (released c s o x)) (sym h.0.1)
    (release_keeps r c s h.0.0 x n l h.0.1 h.1)

end_runs_not : (b : Bool) → ended_as b ≢ Running
end_runs_not true e = cc
end_runs_not false e = cc

aside_runs_not : Aside ≢ Running
aside_runs_not e = cc

take_keeps : (r : Round) (c : Configuration) (s k : ℕ) → Lawful r c → Needs r c (Take s k)
    → Lawful r (changed c (Take s k))
take_keeps r c s k l n =
    record {
      running_is_run = l.running_is_run;
      run_by_one = l.run_by_one;
      run_is_running = l.run_is_running;
      held_is_kept = λ j e. kept j (at_put k true c.held j true e);
      kept_by_one = λ j x y e f. by_one j x y (at_put s (Some k) c.holds x (Some j) e)
          (at_put s (Some k) c.holds y (Some j) f);
      kept_is_held = λ x j e. is_held x j (at_put s (Some k) c.holds x (Some j) e);
      idle_holds_none = λ x e. put_past s x (Some k) c.holds
          (λ (q : x ≡ s). none_is_no_some (sym e ∙ ap c.runs q ∙ n.0.0.1)) ∙ l.idle_holds_none x e;
      begun_may = l.begun_may;
      begun_passed = l.begun_passed;
    }
  where
    not_kept : (x : ℕ) → c.holds x ≡ Some k → ⊥
    not_kept x e = false≢true (sym n.2 ∙ l.kept_is_held x k e)

    kept : (j : ℕ) → At k true c.held j true → (x : ℕ) × (put s (Some k) c.holds x ≡ Some j)
    kept j (Here q e) = (s, put_here s (Some k) c.holds ∙ ap Some (sym q))
    kept j (Past d e) =
        let x : (y : ℕ) × (c.holds y ≡ Some j) = l.held_is_kept j e in (
          x.0,
          put_past s x.0 (Some k) c.holds
              (λ (q : x.0 ≡ s). none_is_no_some (sym n.0.1 ∙ ap c.holds (sym q) ∙ x.1)) ∙ x.1,
        )

    by_one : (j x y : ℕ) → At s (Some k) c.holds x (Some j) → At s (Some k) c.holds y (Some j) → x ≡ y
    by_one j x y (Here p e) (Here q f) = p ∙ sym q
    by_one j x y (Here p e) (Past q f) = absurd (not_kept y (f ∙ sym e))
    by_one j x y (Past p e) (Here q f) = absurd (not_kept x (e ∙ sym f))
    by_one j x y (Past p e) (Past q f) = l.kept_by_one j x y e f

    is_held : (x j : ℕ) → At s (Some k) c.holds x (Some j) → put k true c.held j ≡ true
    is_held x j (Here p e) = ap (put k true c.held) (sym (some_same e)) ∙ put_here k true c.held
    is_held x j (Past p e) = put_past k j true c.held (λ (q : j ≡ k). not_kept x (e ∙ ap Some q)) ∙ l.kept_is_held x j e

leave_keeps : (r : Round) (c : Configuration) (s k : ℕ) → Lawful r c → Needs r c (Leave s k)
    → Lawful r (changed c (Leave s k))
leave_keeps r c s k l n =
    record {
      running_is_run = l.running_is_run;
      run_by_one = l.run_by_one;
      run_is_running = l.run_is_running;
      held_is_kept = λ j e. kept j (at_put k false c.held j true e);
      kept_by_one = λ j x y e f. l.kept_by_one j x y (old x j (at_put s None c.holds x (Some j) e))
          (old y j (at_put s None c.holds y (Some j) f));
      kept_is_held = λ x j e. is_held x j (at_put s None c.holds x (Some j) e);
      idle_holds_none = λ x e. idle x e (cases_eq x s);
      begun_may = l.begun_may;
      begun_passed = l.begun_passed;
    }
  where
    old : (x j : ℕ) → At s None c.holds x (Some j) → c.holds x ≡ Some j
    old x j (Here q e) = absurd (none_is_no_some e)
    old x j (Past d e) = e

    kept : (j : ℕ) → At k false c.held j true → (x : ℕ) × (put s None c.holds x ≡ Some j)
    kept j (Here q e) = absurd (false≢true e)
    kept j (Past d e) =
        let x : (y : ℕ) × (c.holds y ≡ Some j) = l.held_is_kept j e in
        (x.0, put_past s x.0 None c.holds (λ (q : x.0 ≡ s). d (some_same (sym x.1 ∙ ap c.holds q ∙ n))) ∙ x.1)

    is_held : (x j : ℕ) → At s None c.holds x (Some j) → put k false c.held j ≡ true
    is_held x j (Here p e) = absurd (none_is_no_some e)
    is_held x j (Past p e) = put_past k j false c.held (λ (q : j ≡ k). p (l.kept_by_one k x s (e ∙ ap Some q) n))
        ∙ l.kept_is_held x j e

    idle : (x : ℕ) → c.runs x ≡ None → (x ≡ s) ⊎ (x ≢ s) → put s None c.holds x ≡ None
    idle x e (inl q) = ap (put s None c.holds) q ∙ put_here s None c.holds
    idle x e (inr d) = put_past s x None c.holds d ∙ l.idle_holds_none x e

step_keeps : (r : Round) (c : Configuration) (e : RoundEvent) → Lawful r c → Needs r c e → Lawful r (changed c e)
step_keeps r c (Begin s t) l n = begin_keeps r c s t l n
step_keeps r c (Finish s stopped) l n = released_keeps r c s (ended_as stopped) (end_runs_not stopped) l n
step_keeps r c (Take s k) l n = take_keeps r c s k l n
step_keeps r c (Leave s k) l n = leave_keeps r c s k l n
step_keeps r c (SetAside s) l n = released_keeps r c s Aside aside_runs_not l n

pub events_keep : EventsKeep
events_keep r c d e l h = subst (Lawful r) (sym h.1) (step_keeps r c e l h.0)

-- ---- chains

way_rises : (r : Round) (n t u : ℕ) → IsShape r → IsWay r n t u → t < u
way_rises r zero t u s w = (s t u w).0
way_rises r (suc n) t u s (v, g, w) = omega (arith, (s t v g).0, way_rises r n v u s w)

pub chains_rise : ChainsRise
chains_rise r t u s w = way_rises r w.0 t u s w.1

finish_is_no_wait : Finished ≡ Waiting → ⊥
finish_is_no_wait e = cc

running_is_no_wait : Running ≡ Waiting → ⊥
running_is_no_wait e = cc

-- where u has begun, all from which a chain leads to it are finished
way_passed : (r : Round) (c : Configuration) (n t u : ℕ) → Lawful r c → c.stage u ≢ Waiting → IsWay r n t u
    → c.stage t ≡ Finished
way_passed r c zero t u l b w = l.begun_passed u b t w
way_passed r c (suc n) t u l b (v, g, w) =
    l.begun_passed v (λ (e : c.stage v ≡ Waiting). finish_is_no_wait (sym (way_passed r c n v u l b w) ∙ e)) t g

pub lawful_is_free : LawfulIsFree
lawful_is_free r c l =
    record {
      apart = λ t u e f w. running_is_no_finish
          (sym e ∙ way_passed r c w.0 t u l (λ (q : c.stage u ≡ Waiting). running_is_no_wait (sym f ∙ q)) w.1);
      kept_by_one = l.kept_by_one;
    }

-- ---- courses

course_keeps : (r : Round) (c d : Configuration) (es : List RoundEvent) → Lawful r c → Course r c es d → Lawful r d
course_keeps r c d [] l h = subst (Lawful r) (sym h) l
course_keeps r c d (e ∷ es) l (m, h, k) = course_keeps r m d es (events_keep r c m e l h) k

pub reached_is_free : ReachedIsFree
reached_is_free r c d es l h = let k : Lawful r d = course_keeps r c d es l h in (k, lawful_is_free r d k)

-- ---- sound rounds

runs_may : (r : Round) (c : Configuration) (t : ℕ) → Lawful r c → c.stage t ≡ Running → MayRun r t
runs_may r c t l e = l.begun_may t (λ (q : c.stage t ≡ Waiting). running_is_no_wait (sym e ∙ q))

below_or_above : (t u : ℕ) → t ≢ u → (t < u) ⊎ (u < t)
below_or_above zero zero n = absurd (n refl)
below_or_above zero (suc u) n = inl (omega arith)
below_or_above (suc t) zero n = inr (omega arith)
below_or_above (suc t) (suc u) n = up (below_or_above t u (λ (e : t ≡ u). n (ap suc e)))
  where
    up : (t < u) ⊎ (u < t) → (suc t < suc u) ⊎ (suc u < suc t)
    up (inl l) = inl (omega (arith, l))
    up (inr l) = inr (omega (arith, l))

calm : (Conflict Ordered : ℕ → ℕ → Type 0) (r : Round) (c : Configuration) → IsSound r Conflict Ordered → Lawful r c
    → IsCalm c Conflict Ordered
calm Conflict Ordered r c s l =
    record {
      conflicts = λ t u e f n k. meets t u e f k (below_or_above t u n);
      orders = λ t u e f k. (lawful_is_free r c l).apart t u e f
          (s.orders t u (runs_may r c t l e) (runs_may r c u l f) k);
    }
  where
    meets : (t u : ℕ) → c.stage t ≡ Running → c.stage u ≡ Running → Conflict t u → (t < u) ⊎ (u < t) → ⊥
    meets t u e f k (inl b) = (lawful_is_free r c l).apart t u e f
        (s.conflicts t u (runs_may r c t l e) (runs_may r c u l f) b (inl k))
    meets t u e f k (inr b) = (lawful_is_free r c l).apart u t f e
        (s.conflicts u t (runs_may r c u l f) (runs_may r c t l e) b (inr k))

pub sound_is_calm : (Conflict Ordered : ℕ → ℕ → Type 0) → SoundIsCalm Conflict Ordered
sound_is_calm Conflict Ordered r c d es s l h = calm Conflict Ordered r d s (course_keeps r c d es l h)

-- ---- what has begun

put_begun : (t u : ℕ) (x : Stage) (f : ℕ → Stage) → x ≢ Waiting → f u ≢ Waiting → put t x f u ≢ Waiting
put_begun t u x f n b e = elim (at_put t x f u Waiting e) [
  | Here q w ↦ n w
  | Past d w ↦ b w
]

released_begun : (c : Configuration) (s u : ℕ) (o : Option ℕ) (x : Stage) → x ≢ Waiting → c.stage u ≢ Waiting
    → (released c s o x).stage u ≢ Waiting
released_begun c s u None x n b = b
released_begun c s u (Some t) x n b = put_begun t u x c.stage n b

end_waits_not : (b : Bool) → ended_as b ≢ Waiting
end_waits_not true e = cc
end_waits_not false e = cc

aside_waits_not : Aside ≢ Waiting
aside_waits_not e = cc

step_begun : (c : Configuration) (e : RoundEvent) (u : ℕ) → c.stage u ≢ Waiting → (changed c e).stage u ≢ Waiting
step_begun c (Begin s t) u b = put_begun t u Running c.stage running_is_no_wait b
step_begun c (Finish s stopped) u b = released_begun c s u (c.runs s) (ended_as stopped) (end_waits_not stopped) b
step_begun c (Take s k) u b = b
step_begun c (Leave s k) u b = b
step_begun c (SetAside s) u b = released_begun c s u (c.runs s) Aside aside_waits_not b

pub begun_stays : BegunStays
begun_stays r c d [] t h b = subst (λ (m : Configuration). m.stage t ≢ Waiting) (sym h) b
begun_stays r c d (e ∷ es) t (m, h, k) b =
    begun_stays r m d es t k (subst (λ (n : Configuration). n.stage t ≢ Waiting) (sym h.1) (step_begun c e t b))

-- ---- how often a task begins

step_on : (r : Round) (c m : Configuration) (e : RoundEvent) (t : ℕ) → Happens r c e m → c.stage t ≢ Waiting
    → m.stage t ≢ Waiting
step_on r c m e t h b = subst (λ (n : Configuration). n.stage t ≢ Waiting) (sym h.1) (step_begun c e t b)

none_more : (b : Bool) (n : ℕ) → b ≡ false → n ≡ 0 → (if b then suc n else n) ≡ 0
none_more true n e z = cc
none_more false n e z = z

begins_no_more : (r : Round) (c d : Configuration) (es : List RoundEvent) (t : ℕ) → Course r c es d
    → c.stage t ≢ Waiting → begins t es ≡ 0
begins_no_more r c d [] t h b = refl
begins_no_more r c d (Begin s u ∷ es) t (m, h, k) b =
    none_more (nat_eq u t) (begins t es) (ne_eqb u t (λ (q : u ≡ t). b (ap c.stage (sym q) ∙ h.0.2)))
    (begins_no_more r m d es t k (step_on r c m (Begin s u) t h b))
begins_no_more r c d (Finish s stopped ∷ es) t (m, h, k) b = begins_no_more r m d es t k
    (step_on r c m (Finish s stopped) t h b)
begins_no_more r c d (Take s j ∷ es) t (m, h, k) b = begins_no_more r m d es t k (step_on r c m (Take s j) t h b)
begins_no_more r c d (Leave s j ∷ es) t (m, h, k) b = begins_no_more r m d es t k (step_on r c m (Leave s j) t h b)
begins_no_more r c d (SetAside s ∷ es) t (m, h, k) b = begins_no_more r m d es t k (step_on r c m (SetAside s) t h b)

one_more : (b : Bool) (n : ℕ) → n ≤ 1 → (b ≡ true → n ≡ 0) → (if b then suc n else n) ≤ 1
one_more true n l z = omega (arith, z refl)
one_more false n l z = l

is_begun : (r : Round) (c m : Configuration) (s u t : ℕ) → Happens r c (Begin s u) m → nat_eq u t ≡ true
    → m.stage t ≢ Waiting
is_begun r c m s u t h e w =
    let q : u ≡ t = grind (arith, nat_tests) in
    running_is_no_wait (sym (put_here u Running c.stage) ∙ ap (put u Running c.stage) q
    ∙ ap (λ (n : Configuration). n.stage t) (sym h.1) ∙ w)

pub begins_once : BeginsOnce
begins_once r c d [] t h = omega arith
begins_once r c d (Begin s u ∷ es) t (m, h, k) =
    one_more (nat_eq u t) (begins t es) (begins_once r m d es t k)
    (λ (e : nat_eq u t ≡ true). begins_no_more r m d es t k (is_begun r c m s u t h e))
begins_once r c d (Finish s stopped ∷ es) t (m, h, k) = begins_once r m d es t k
begins_once r c d (Take s j ∷ es) t (m, h, k) = begins_once r m d es t k
begins_once r c d (Leave s j ∷ es) t (m, h, k) = begins_once r m d es t k
begins_once r c d (SetAside s ∷ es) t (m, h, k) = begins_once r m d es t k
