-- Proofs of the laws that go by what work keeps to and what a plan meets.
use Rattle.std.proofs.Common.{◌≡◌, ◌≤◌, ◌<◌, inl, inr, refl, ap, sym, subst, ◌∙◌, arith, ℕ, zero, suc, nat_eq, Bool}
use Rattle.std.proofs.Common.{true}
use Rattle.std.proofs.Common.{false, if◌then◌else◌, List, [], ◌∷◌, ◌++◌, map, Contains, append-nil}
use Rattle.std.specs.Prelude.{◌+◌}
use Rattle.std.proofs.lemmas.Bool.{eqb-true}
use Rattle.std.proofs.lemmas.List.{append_cancel_left, map-append}
use Rattle.std.proofs.lemmas.List.Elements.{Contains-append_right}
use Rattle.ae_text.specs.declared.refusal.Edge.{Edge}
use Rattle.ae_rounds.specs.Rounds.{IsShape, MayRun}
use Rattle.ae_rounds.specs.Flow.{Work, Plan, TaskEnd, Never, Finished, Stopped, Aside, Result, round_of}
use Rattle.ae_rounds.specs.Flow.{IsInput}
use Rattle.ae_rounds.specs.Flow.{IsEnd, IsOutput, HasBegun, entering, AreRising, AreCarries, IsGiven}
use Rattle.ae_rounds.specs.Flow.{HasDrawn}
use Rattle.ae_rounds.specs.Flow.{IsNewTo, entries_in, stamps_in, GoesOn, Flow}
use Rattle.ae_rounds.specs.Works.{AreStampsBefore, IsLaterThan, MayGive, MayCarry, NoEdge, Along, Gives, IsPlan}
use Rattle.ae_rounds.specs.FlowLaws.{EntriesAreDrawn, HistoriesRise, BegunWereReady}
use Rattle.ae_rounds.proofs.from_text.Basics.{option_holds_one}

-- ---- what was added was drawn

-- a stamp that is later than what the task was given is new to it
later_is_new : {I C O B E : Type 0} (w : Work I C O B E) (x : I) (cs : List C) (s : ℕ) → IsLaterThan w x cs s
    → IsNewTo w x cs s
later_is_new w x cs s h = (
  λ c. absurd (let b : s < s = h.0 s c in omega (arith, b)),
  λ y c d. absurd (let b : s < s = h.1 y c s d in omega (arith, b)),
)

-- a task has one input
one_input : {I E : Type 0} (p : Plan I E) (t : ℕ) (x y : I) → IsInput p t x → IsInput p t y → x ≡ y
one_input p t x y h k = option_holds_one _ x y h k

-- an output or a body that is longer at a cell by these entries has drawn the stamp of each
drawn_by : {I C O B E : Type 0} (w : Work I C O B E) (p : Plan I E) (r : Result I O B E) (t : ℕ) (x : I) (cs : List C)
    (end : TaskEnd I O B) (s : ℕ) → IsGiven w p r t x cs → IsEnd r t end → HasBegun end → Contains (stamps_in w end) s
    → IsLaterThan w x cs s → HasDrawn w p r t s
drawn_by w p r t x cs end s g i b c l = (x, cs, end, g, i, b, c, later_is_new w x cs s l)

-- the entries of the task's one input stand before those added
same_before : {I C O B E : Type 0} (w : Work I C O B E) (k : ℕ) (x y : I) (all es : List E) → x ≡ y
    → all ≡ w.input_entries x k ++ es → all ≡ w.input_entries y k ++ es
same_before w k x y all es e q = subst (λ z. all ≡ w.input_entries z k ++ es) e q

-- what stands behind stands in the whole
behind_in_all : {E : Type 0} (before es all : List E) (e : E) → all ≡ before ++ es → Contains es e → Contains all e
behind_in_all before es all e q c = subst (λ xs. Contains xs e) (sym q) (Contains-append_right before es e c)

-- nothing is behind a list that is the same with this behind it
none_behind : {E : Type 0} (xs es : List E) (e : E) → xs ≡ xs ++ es → Contains es e → ⊥
none_behind xs es e q c =
    let n : [] ≡ es = append_cancel_left xs [] es (append-nil xs ∙ q) in
    omega (arith, (subst (λ ys. Contains ys e) (sym n) c).1)

pub entries_are_drawn : {I C O B E : Type 0} (w : Work I C O B E) → EntriesAreDrawn w
entries_are_drawn {I} {C} {O} {B} {E} w h p r t k es e f (x, end, i, j, q) c = by_end end j q
  where
    by_end : (end : TaskEnd I O B) → IsEnd r t end → entries_in w end k ≡ w.input_entries x k ++ es
        → HasDrawn w p r t (w.stamp e)
    by_end (Never y) j q = absurd (none_behind (w.input_entries y k) es e
        (same_before w k x y (w.input_entries y k) es (one_input p t x y i (f.never t y j)) q) c)
    by_end (Finished o) j q =
        let g = f.outputs t o (inl j) in
        let l = same_before w k x g.0 (w.output_entries o k) es (one_input p t x g.0 i g.2.0) q in
        (drawn_by) w p r t g.0 g.1 (Finished o) (w.stamp e) g.2 j tt
        (h.output_stamped o k e (behind_in_all (w.input_entries x k) es (w.output_entries o k) e q c))
        (h.gives_later g.0 g.1 o k es e g.3 l c)
    by_end (Stopped o) j q =
        let g = f.outputs t o (inr j) in
        let l = same_before w k x g.0 (w.output_entries o k) es (one_input p t x g.0 i g.2.0) q in
        drawn_by w p r t g.0 g.1 (Stopped o) (w.stamp e) g.2 j tt
        (h.output_stamped o k e (behind_in_all (w.input_entries x k) es (w.output_entries o k) e q c))
        (h.gives_later g.0 g.1 o k es e g.3 l c)
    by_end (Aside b) j q =
        let g = f.bodies t b j in
        let l = same_before w k x g.0 (w.body_entries b k) es (one_input p t x g.0 i g.2.0) q in
        drawn_by w p r t g.0 g.1 (Aside b) (w.stamp e) g.2 j tt
        (h.body_stamped b k e (behind_in_all (w.input_entries x k) es (w.body_entries b k) e q c))
        (h.pauses_later g.0 g.1 b k es e g.3 l c)

-- ---- histories

-- two lists of rising numbers, those of the first below a number and those of the second not
rising_join : (n : ℕ) (xs ys : List ℕ) → AreRising xs → AreRising ys → AreStampsBefore xs n
    → ((s : ℕ) → Contains ys s → n ≤ s)
    → AreRising (xs ++ ys)
rising_join n [] ys h k b a = k
rising_join n (x ∷ []) [] h k b a = tt
rising_join n (x ∷ []) (y ∷ ys) h k b a =
    (omega (arith, b x (0, omega arith, refl), a y (0, omega arith, refl)), k)
rising_join n (x ∷ z ∷ xs) ys h k b a = (
  h.0,
  rising_join n (z ∷ xs) ys h.1 k (λ s c. b s (suc c.0, omega (arith, c.1), c.2)) a,
)

-- what a mapped list has is the image of what the list has
contained_in_map : {A B : Type 0} (f : A → B) (xs : List A) (y : B) → Contains (map f xs) y
    → (x : A) × Contains xs x × (f x ≡ y)
contained_in_map f [] y c = absurd (omega (arith, c.1))
contained_in_map f (x ∷ xs) y (zero, l, e) = (x, (0, omega arith, refl), e)
contained_in_map f (x ∷ xs) y (suc k, l, e) =
    let r = contained_in_map f xs y (k, omega (arith, l), e) in
    (r.0, (suc r.1.0, omega (arith, r.1.1), r.1.2), r.2)

pub histories_rise : {I C O B E : Type 0} (w : Work I C O B E) → HistoriesRise w
histories_rise {I} {C} {O} {B} {E} w h p r k old new q f i j rises =
    let g : GoesOn w p r k old new = f.cells k old new i j in
    subst (λ (n : List E). AreRising (map w.stamp n)) (sym g.whole)
    (subst AreRising (sym (map-append w.stamp old g.added))
    (rising_join p.clock (map w.stamp old) (map w.stamp g.added) rises g.rising before (later g)))
  where
    before : (s : ℕ) → Contains (map w.stamp old) s → s < p.clock
    before s c = let x = contained_in_map w.stamp old s c in subst (λ n. n < p.clock) x.2
        (q.cells_before k old x.0 i x.1)

    later : (g : GoesOn w p r k old new) (s : ℕ) → Contains (map w.stamp g.added) s → p.clock ≤ s
    later g s c =
        let x = contained_in_map w.stamp g.added s c in
        let a = (g.exact x.0).0 x.1 in
        subst (λ n. p.clock ≤ n) x.2
        (f.in_time a.0 (w.stamp x.0) (entries_are_drawn w h p r a.0 k a.1 x.0 f a.2 a.3)).0

-- ---- readiness

abbrev edge_of : ℕ → ℕ → Edge
edge_of from to = record { from = from; to = to }

-- an edge that enters a task leads from the task that is named there
entering_edge : (n : ℕ) (es : List Edge) (t edge from : ℕ) → Contains (entering n es t) (edge, from)
    → Contains es (record { from = from; to = t })
entering_edge n [] t edge from c = absurd (omega (arith, c.1))
entering_edge n (e ∷ es) t edge from c = by_test (λ d. further (entering_edge (n + 1) es t edge from d)) (nat_eq e.to t)
    refl c
  where
    further : Contains es (record { from = from; to = t }) → Contains (e ∷ es) (record { from = from; to = t })
    further d = (suc d.0, omega (arith, d.1), d.2)

    by_test : (Contains (entering (n + 1) es t) (edge, from) → Contains (e ∷ es) (record { from = from; to = t }))
        → (b : Bool) → nat_eq e.to t ≡ b
        → Contains (if b then (n, e.from) ∷ entering (n + 1) es t else entering (n + 1) es t) (edge, from)
        → Contains (e ∷ es) (record { from = from; to = t })
    by_test k true q (zero, l, i) = (0, omega arith, here (ap (λ (x : ℕ × ℕ). x.1) i) (eqb-true e.to t q))
      where
        here : e.from ≡ from → e.to ≡ t → e ≡ record { from = from; to = t }
        here i j = ap (λ n. edge_of n e.to) i ∙ ap (edge_of from) j
    by_test k true q (suc m, l, i) = k (m, omega (arith, l), i)
    by_test k false q c = k c

-- carries from outputs that may be given are carries that may come
may_carry : {I C O B E : Type 0} (w : Work I C O B E) (p : Plan I E) (r : Result I O B E) → Flow w p r
    → (edges : List (ℕ × ℕ)) (cs : List C)
    → ((edge from : ℕ) (o : O) → Contains edges (edge, from) → IsEnd r from (Finished o) → MayGive w p from o)
    → AreCarries w r edges cs → MayCarry w p edges cs
may_carry w p r f [] cs give a = subst (MayCarry w p []) (sym a) NoEdge
may_carry w p r f (x ∷ xs) cs give a = subst (MayCarry w p (x ∷ xs)) (sym a.3)
    (Along x.0 x.1 xs a.0 a.1 (give x.0 x.1 a.0 (0, omega arith, refl) a.2) (f.finished x.1 a.0 a.2)
    (may_carry w p r f xs a.1 (λ edge from o c i. give edge from o (suc c.0, omega (arith, c.1), c.2) i) a.4))

-- what a task gave is what it may give
may_give : {I C O B E : Type 0} (w : Work I C O B E) (p : Plan I E) (r : Result I O B E) → IsShape (round_of p)
    → Flow w p r → (n t : ℕ) (o : O) → t < n → IsOutput r t o → MayGive w p t o
may_give w p r h f zero t o l i = absurd (omega (arith, l))
may_give w p r h f (suc n) t o l i =
    let g = f.outputs t o i in
    Gives t g.0 g.1 o g.2.0
    (may_carry w p r f (entering 0 p.edges t) g.1
    (λ edge from q c j. may_give w p r h f n from q
    (omega (arith, l, (h from t (entering_edge 0 p.edges t edge from c)).0)) (inl j)) g.2.1)
    g.3

carries_may_come : {I C O B E : Type 0} (w : Work I C O B E) (p : Plan I E) (r : Result I O B E) (t : ℕ) (x : I)
    (cs : List C)
    → IsPlan w p → Flow w p r → IsGiven w p r t x cs → MayCarry w p (entering 0 p.edges t) cs
carries_may_come w p r t x cs q f g = may_carry w p r f (entering 0 p.edges t) cs
    (λ edge from o c j. may_give w p r q.shape f (suc from) from o (omega arith) (inl j)) g.1

pub begun_were_ready : {I C O B E : Type 0} (w : Work I C O B E) → BegunWereReady w
begun_were_ready {I} {C} {O} {B} {E} w p r t e q f i b = by_end e i b
  where
    was_ready : (x : I) (cs : List C) → MayRun (round_of p) t → IsGiven w p r t x cs
        → (y : I) × (ds : List C) × IsGiven w p r t y ds × w.ready y ds
    was_ready x cs m g = (x, cs, g, q.ready t x cs m g.0 (carries_may_come w p r t x cs q f g))

    by_end : (e : TaskEnd I O B) → IsEnd r t e → HasBegun e
        → (x : I) × (cs : List C) × IsGiven w p r t x cs × w.ready x cs
    by_end (Never y) i b = absurd b
    by_end (Finished o) i b =
        let g = f.outputs t o (inl i) in was_ready g.0 g.1 (f.begun_may t (Finished o) i b) g.2
    by_end (Stopped o) i b =
        let g = f.outputs t o (inr i) in was_ready g.0 g.1 (f.begun_may t (Stopped o) i b) g.2
    by_end (Aside y) i b = let g = f.bodies t y i in was_ready g.0 g.1 (f.begun_may t (Aside y) i b) g.2
