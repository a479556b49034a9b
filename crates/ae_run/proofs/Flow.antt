-- A statement all of whose predecessors went through finds what it finds in source order.
use Rattle.std.proofs.Common.{◌≡◌, ◌≢◌, ◌<◌, ◌≤◌, ◌+◌, ◌-◌, ◌⊎◌, inl, inr, ℕ, suc, Bool, true, false, ◌||◌, nat_eq}
use Rattle.std.proofs.Common.{List, [], IsSome, refl, ap, sym, ◌∙◌, arith, subst}
use Rattle.std.proofs.lemmas.Bool.{cases_eq, cases_order, false_from_ne_true}
use Rattle.std.proofs.lemmas.Bool.Decides.{nat_tests}
use Rattle.ae_rules.specs.declared.uses.Resource.TheVariants.{Local}
use Rattle.ae_tree.specs.Plain.{Lines}
use Rattle.ae_rules.specs.Edges.{BlockUses, Edge}
use Rattle.ae_meaning.specs.declared.report.Ending.{Ending}
use Rattle.ae_meaning.specs.Values.{Env, empty}
use Rattle.ae_meaning.specs.Meaning.{TodayState, Run, Went, Ends, Stops}
use Rattle.ae_meaning.specs.Frame.{View, AgreeAfter}
use Rattle.ae_run.specs.Flow.{alone, locals_after, found_by, turn, writes_local, IsClosed, HasValues, IsReady, Prints}
use Rattle.ae_run.proofs.Deeds.{seen, Kept, Tells, found-next, found-unwritten}
use Rattle.ae_run.proofs.Closed.{conflicts_closed, write_then_use, use_then_write, write_is_use}
use Rattle.ae_run.proofs.from_text.Basics.{no_test_is_both}

le_or_more : (m j : ℕ) → (m ≤ j) ⊎ (j < m)
le_or_more m j = elim (cases_order m j)
    [ inl e ↦ inl (omega arith) | inr o ↦ elim o [ inl l ↦ inl (omega arith) | inr l ↦ inr l ] ]

-- one more statement went through
pub record IsWith (went later : ℕ → Bool) (j : ℕ) : Type 0 where
  pub here : later j ≡ true
  pub others : (k : ℕ) → k ≢ j → later k ≡ went k

not_here : (went : ℕ → Bool) (i j : ℕ) → went j ≡ false → went i ≡ true → i ≢ j
not_here went i j l h = λ q. no_test_is_both (went j) (ap went (sym q) ∙ h) l

closed_step : (uses : BlockUses) (went later : ℕ → Bool) (j : ℕ) → IsClosed uses went → IsReady uses went j
    → IsWith went later j
    → (i k : ℕ) → Edge uses i k → later k ≡ true → (k ≡ j) ⊎ (k ≢ j) → later i ≡ true
closed_step uses went later j c r w i k e h (inl q) =
    let l : i < k = e.before in
    w.others i (λ (p : i ≡ j). omega arith) ∙ r.waits i (subst (λ (x : ℕ). Edge uses i x) q e)
closed_step uses went later j c r w i k e h (inr n) =
    let past : went i ≡ true = c i k e (sym (w.others k n) ∙ h) in
    w.others i (not_here went i j r.left past) ∙ past

pub closed_with : (uses : BlockUses) (went later : ℕ → Bool) (j : ℕ) → IsClosed uses went → IsReady uses went j
    → IsWith went later j → IsClosed uses later
closed_with uses went later j c r w = λ i k e h. closed_step uses went later j c r w i k e h (cases_eq k j)

abbrev also : (ℕ → Bool) → ℕ → ℕ → Bool
also went j k = nat_eq k j || went k

also_here : (went : ℕ → Bool) (j : ℕ) → also went j j ≡ true
also_here went j = grind (arith, nat_tests)

also_others : (went : ℕ → Bool) (j k : ℕ) → k ≢ j → also went j k ≡ went k
also_others went j k n = grind (arith, nat_tests)

-- what a ready statement uses is as it finds it in source order
pub agrees : (b : Lines) (uses : BlockUses) (went : ℕ → Bool) (j : ℕ) (env : Env) → IsClosed uses went
    → IsReady uses went j
    → HasValues b uses went env
    → (y : ℕ) → IsSome (uses j (Local y)) → env y ≡ found_by b j y
agrees b uses went j env c r v = λ y u.
    v y j
    (λ k l w.
    let closed : IsClosed uses (also went j) = closed_with uses went (also went j) j c r
    (record { here = also_here went j; others = also_others went j }) in
    let n : k ≢ j = λ (q : k ≡ j). omega arith in
    sym (also_others went j k n)
    ∙ conflicts_closed uses (also went j) closed (Local y) k j l
    (write_then_use (uses k (Local y)) (uses j (Local y)) w u) (also_here went j))
    (λ k l w. false_from_ne_true (went k) (λ t.
    let n : k ≢ j = not_here went k j r.left t in
    let m : j < k = omega arith in
    no_test_is_both (went j) (conflicts_closed uses went c (Local y) j k m
    (use_then_write (uses j (Local y)) (uses k (Local y)) u w) t) r.left))

-- a local that statement j does not write
unwritten_at : (b : Lines) (uses : BlockUses) (went later : ℕ → Bool) (j : ℕ) (env : Env) → IsWith went later j
    → HasValues b uses went env
    → (y m : ℕ) → writes_local uses j y ≡ false → ((k : ℕ) → k < m → writes_local uses k y ≡ true → later k ≡ true)
    → ((k : ℕ) → m ≤ k → writes_local uses k y ≡ true → later k ≡ false)
    → env y ≡ found_by b m y
unwritten_at b uses went later j env w v y m n p q =
    let apart : (k : ℕ) → writes_local uses k y ≡ true → k ≢ j = λ k t e. no_test_is_both (writes_local uses k y) t
    (ap (λ x. writes_local uses x y) e ∙ n) in
    v y m (λ k l t. sym (w.others k (apart k t)) ∙ p k l t) (λ k l t. sym (w.others k (apart k t)) ∙ q k l t)

-- a local that statement j writes: none between j and m writes it
written_at : (b : Lines) (uses : BlockUses) → Tells b uses → (went later : ℕ → Bool) (j : ℕ) → IsClosed uses went
    → IsReady uses went j
    → IsWith went later j
    → (y m : ℕ) → writes_local uses j y ≡ true → ((k : ℕ) → k < m → writes_local uses k y ≡ true
    → later k ≡ true) → j < m
    → found_by b m y ≡ locals_after (turn b j) (found_by b j) y
written_at b uses tells went later j c r w y m t p l =
    let e : suc j + (m - suc j) ≡ m = omega arith in
    let none : (k : ℕ) → suc j ≤ k → k < suc j + (m - suc j) → writes_local uses k y ≡ false = λ k above under.
    false_from_ne_true (writes_local uses k y) (λ s.
    let n : k ≢ j = λ (q : k ≡ j). omega arith in
    let past : went k ≡ true = sym (w.others k n) ∙ p k (omega arith) s in
    no_test_is_both (went j) (conflicts_closed uses went c (Local y) j k (omega arith)
    (use_then_write (uses j (Local y)) (uses k (Local y)) (write_is_use (uses j (Local y)) t) s) past)
    r.left) in
    ap (λ n. found_by b n y) (sym e) ∙ found-unwritten b uses tells y (suc j) (m - suc j) none
    ∙ ap (λ (f : Env). f y) (found-next empty b j)

-- what statements that went through leave, and a ready statement beside them
pub record Stands (b : Lines) (uses : BlockUses) (went : ℕ → Bool) (j : ℕ) (env : Env) : Type 0 where
  pub closed : IsClosed uses went
  pub ready : IsReady uses went j
  pub values : HasValues b uses went env

-- a ready statement does what it does in source order
turn-agrees : (b : Lines) (uses : BlockUses) → Tells b uses → (went : ℕ → Bool) (j : ℕ) (env : Env)
    → Stands b uses went j env
    → AgreeAfter (seen (uses j)) (alone b j env) (turn b j)
turn-agrees b uses tells went j env h = tells.agrees j env (found_by b j)
    (agrees b uses went j env h.closed h.ready h.values)

went_local : (v : View) (s : TodayState) (r : Run) (env : Env) (y : ℕ) → AgreeAfter v (Went s) r → v.local y ≡ true
    → s.env y ≡ locals_after r env y
went_local v s (Went t) env y h u = h.local y u
went_local v s (Ends ending log) env y h u = absurd h
went_local v s (Stops log) env y h u = absurd h

-- after a ready statement a local is as source order has it, whether the statement writes it or not
value_at : (b : Lines) (uses : BlockUses) → Tells b uses → (went later : ℕ → Bool) (j : ℕ) (env : Env)
    → Stands b uses went j env → IsWith went later j
    → (s : TodayState) → AgreeAfter (seen (uses j)) (Went s) (turn b j) → Kept (writes_local uses j) env (Went s)
    → (y m : ℕ) → ((k : ℕ) → k < m → writes_local uses k y ≡ true → later k ≡ true)
    → ((k : ℕ) → m ≤ k → writes_local uses k y ≡ true → later k ≡ false)
    → (t : Bool) → writes_local uses j y ≡ t → (m ≤ j) ⊎ (j < m) → s.env y ≡ found_by b m y
value_at b uses tells went later j env h w s a k y m p q true t (inl l) = absurd (no_test_is_both (later j) w.here
    (q j l t))
value_at b uses tells went later j env h w s a k y m p q true t (inr l)
    = went_local (seen (uses j)) s (turn b j) (found_by b j) y a (write_is_use (uses j (Local y)) t)
    ∙ sym (written_at b uses tells went later j h.closed h.ready w y m t p l)
value_at b uses tells went later j env h w s a k y m p q false t o = k y t
    ∙ unwritten_at b uses went later j env w h.values y m t p q

-- what a statement that goes through does to the locals keeps the values
pub went_values : (b : Lines) (uses : BlockUses) → Tells b uses → (went later : ℕ → Bool) (j : ℕ) (env : Env)
    → Stands b uses went j env
    → IsWith went later j
    → (s : TodayState) → alone b j env ≡ Went s → HasValues b uses later s.env
went_values b uses tells went later j env h w s e =
    let a : AgreeAfter (seen (uses j)) (Went s) (turn b j) = subst (λ (r : Run). AgreeAfter (seen (uses j)) r (turn
    b j)) e
    (turn-agrees b uses tells went j env h) in
    let k : Kept (writes_local uses j) env (Went s) = subst (λ (r : Run). Kept (writes_local uses j) env r) e
    (tells.kept j env) in
    λ y m p q. value_at b uses tells went later j env h w s a k y m p q (writes_local uses j y) refl (le_or_more m j)

prints_alike : (v : View) (s : TodayState) (r : Run) → v.log ≡ true → AgreeAfter v (Went s) r → Prints r s.log
prints_alike v s (Went t) l h = sym (h.log l)
prints_alike v s (Ends ending log) l h = absurd h
prints_alike v s (Stops log) l h = absurd h

pub went_prints : (b : Lines) (uses : BlockUses) → Tells b uses → (went : ℕ → Bool) (j : ℕ) (env : Env)
    → Stands b uses went j env → (s : TodayState)
    → alone b j env ≡ Went s → Prints (turn b j) s.log
went_prints b uses tells went j env h s e
    = prints_alike (seen (uses j)) s (turn b j) refl
    (subst (λ (r : Run). AgreeAfter (seen (uses j)) r (turn b j)) e (turn-agrees b uses tells went j env h))

ends_alike : (v : View) (ending : Ending) (log : List ℕ) (r : Run) → v.log ≡ true → AgreeAfter v (Ends ending log) r
    → log ≡ [] → r ≡ Ends ending []
ends_alike v ending log (Went t) l h n = absurd h
ends_alike v ending log (Ends other more) l h n = ap (λ e. Ends e more) (sym h.0) ∙ ap (λ m. Ends ending m)
    (sym (h.1 l) ∙ n)
ends_alike v ending log (Stops more) l h n = absurd h

pub ended_turn : (b : Lines) (uses : BlockUses) → Tells b uses → (went : ℕ → Bool) (j : ℕ) (env : Env)
    → Stands b uses went j env
    → (ending : Ending) (log : List ℕ) → alone b j env ≡ Ends ending log
    → (turn b j ≡ Ends ending []) × (log ≡ [])
ended_turn b uses tells went j env h ending log e =
    let n : log ≡ [] = subst (λ (r : Run). Kept (writes_local uses j) env r) e (tells.kept j env) in
    let a = subst (λ (r : Run). AgreeAfter (seen (uses j)) r (turn b j)) e (turn-agrees b uses tells went j env h) in
    (ends_alike (seen (uses j)) ending log (turn b j) refl a n, n)

stops_alike : (v : View) (log : List ℕ) (r : Run) → v.log ≡ true → AgreeAfter v (Stops log) r → log ≡ [] → r ≡ Stops []
stops_alike v log (Went t) l h n = absurd h
stops_alike v log (Ends ending more) l h n = absurd h
stops_alike v log (Stops more) l h n = ap (λ m. Stops m) (sym (h l) ∙ n)

pub stopped_turn : (b : Lines) (uses : BlockUses) → Tells b uses → (went : ℕ → Bool) (j : ℕ) (env : Env)
    → Stands b uses went j env → (log : List ℕ)
    → alone b j env ≡ Stops log
    → (turn b j ≡ Stops []) × (log ≡ [])
stopped_turn b uses tells went j env h log e =
    let n : log ≡ [] = subst (λ (r : Run). Kept (writes_local uses j) env r) e (tells.kept j env) in
    let a = subst (λ (r : Run). AgreeAfter (seen (uses j)) r (turn b j)) e (turn-agrees b uses tells went j env h) in
    (stops_alike (seen (uses j)) log (turn b j) refl a n, n)

-- before anything went through
pub values_begin : (b : Lines) (uses : BlockUses) → Tells b uses → (went : ℕ → Bool) → ((k : ℕ) → went k ≡ false)
    → HasValues b uses went empty
values_begin b uses tells went n = λ y m p q.
    let e : 0 + m ≡ m = omega arith in
    sym (ap (λ x. found_by b x y) (sym e) ∙ found-unwritten b uses tells y 0 m
    (λ k l u. false_from_ne_true (writes_local uses k y)
    (λ t. no_test_is_both (went k) (p k (omega arith) t) (n k))))
