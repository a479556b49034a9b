-- The laws on other orders, from those on two judged_statements.
use Rattle.std.proofs.Common.{◌≡◌, inl, inr, List, [], ◌∷◌, Option, refl, ap, sym, ◌∙◌, subst}
use Rattle.ae_tree.specs.Plain.{Lines, End, Next, Definition, Code}
use Rattle.ae_rules.specs.Verdict.{Verdict, judged}
use Rattle.ae_rules.specs.Context.{Context}
use Rattle.ae_meaning.specs.declared.report.Ending.{Ending}
use Rattle.ae_meaning.specs.Meaning.{TodayState, Run, Went, Ends, Stops, today_and_then, today_one, today_many}
use Rattle.ae_meaning.specs.Meaning.{meaning_of_run}
use Rattle.ae_meaning.specs.Judged.{Statement, judged_statements, IsJudged, AreAllJudged, AreJudged}
use Rattle.ae_meaning.specs.Frame.{today_does, Commute}
use Rattle.ae_meaning.specs.Order.{today_all, Takes, Reorders, OrderIsFree, TakingKeepsEnding}
use Rattle.ae_meaning.proofs.Judged.{first_judged, rest_judged, all_judged}
use Rattle.ae_meaning.proofs.Laws.{apart_commute}

went_parts : (r : Run) (go : TodayState → Run) (t : TodayState) → today_and_then r go ≡ Went t
    → (u : TodayState) × (r ≡ Went u) × (go u ≡ Went t)
went_parts (Went s) go t h = (s, refl, h)
went_parts (Ends e log) go t h = absurd (cc)
went_parts (Stops log) go t h = absurd (cc)

-- where both orders begin well, they go on alike
commute_went : (f g : TodayState → Run) (r q : Run) (u v : TodayState) → Commute f g r q → r ≡ Went u → g u ≡ Went v
    → (w : TodayState) × (q ≡ Went w) × (f w ≡ Went v)
commute_went f g (Went s) (Went t) u v c h k =
    let e : s ≡ u = cc in
    let z : c.0 ≡ v = let m : g s ≡ Went v = ap g e ∙ k in cc in
    (t, refl, c.2 ∙ ap (λ (x : TodayState). Went x) z)
commute_went f g (Went s) (Ends e log) u v c h k =
    let m : g s ≡ Went v = ap g (let e : s ≡ u = cc in e) ∙ k in absurd (cc)
commute_went f g (Went s) (Stops log) u v c h k =
    let m : g s ≡ Went v = ap g (let e : s ≡ u = cc in e) ∙ k in absurd (cc)
commute_went f g (Ends e log) q u v c h k = absurd (cc)
commute_went f g (Stops log) q u v c h k = absurd (cc)

-- Judged lines are their judged_statements in order.
all_are_lines : (p : Code) (m : Definition) (b : Lines) (c : Context) → AreJudged p m b c → (s : TodayState)
    → today_all (judged_statements p m b c) s ≡ today_many b s
all_are_lines p m End c j s = refl
all_are_lines p m (Next at a rest) c j s =
    let first : IsJudged p m (record { at = at; action = a; context = c }) = first_judged p m at a rest c j in
    ap (λ (v : Verdict Context). today_and_then (today_one at a s)
    (today_all (judged v [] (judged_statements p m rest)))) first.holds
    ∙ next_alike (today_one at a s) (today_all (judged_statements p m rest first.later)) (today_many rest)
    (λ t. all_are_lines p m rest first.later (rest_judged p m at a rest c first.later j first.holds) t)
  where
    next_alike : (r : Run) (f g : TodayState → Run) → ((t : TodayState) → f t ≡ g t)
        → today_and_then r f ≡ today_and_then r g
    next_alike (Went t) f g h = h t
    next_alike (Ends e log) f g h = refl
    next_alike (Stops log) f g h = refl

-- what is taken out is judged, and so is the rest
taken_judged : (p : Code) (m : Definition) (xs : List Statement) (x : Statement) (rest : List Statement)
    → Takes p m xs x rest → AreAllJudged p m xs → IsJudged p m x × AreAllJudged p m rest
taken_judged p m [] x rest t j = absurd t
taken_judged p m (first ∷ more) x rest (inl t) j =
    (subst (IsJudged p m) t.0 j.0, subst (AreAllJudged p m) t.1 j.1)
taken_judged p m (first ∷ more) x rest (inr t) j =
    let r = taken_judged p m more x t.0 t.3 j.1 in
    let all : AreAllJudged p m (first ∷ t.0) = (j.0, r.1) in
    (r.0, subst (AreAllJudged p m) (sym t.1) all)

-- the taken statement first, and then the rest
take_goes : (p : Code) (m : Definition) (xs : List Statement) (x : Statement) (rest : List Statement)
    → Takes p m xs x rest → AreAllJudged p m xs → (s t : TodayState)
    → today_all xs s ≡ Went t → today_and_then (today_does x s) (today_all rest) ≡ Went t
take_goes p m [] x rest q j s t h = absurd q
take_goes p m (first ∷ more) x rest (inl q) j s t h = rw (← q.0, ← q.1) h
take_goes p m (first ∷ more) x rest (inr q) j s t h =
    let k = (taken_judged p m more x q.0 q.3 j.1).0 in
    let a = went_parts (today_does first s) (today_all more) t h in
    let b = went_parts (today_does x a.0) (today_all q.0) t (take_goes p m more x q.0 q.3 j.1 a.0 t a.2) in
    let z = commute_went (today_does first) (today_does x) (today_does first s) (today_does x s) a.0 b.0
    (apart_commute p m first x j.0 k q.2 s) a.1 b.1 in
    rw (q.1, z.1, z.2) b.2

-- judged_statements in another order lead to the same state
others_go : (p : Code) (m : Definition) (xs ys : List Statement) → Reorders p m xs ys → AreAllJudged p m xs
    → (s t : TodayState) → today_all xs s ≡ Went t → today_all ys s ≡ Went t
others_go p m xs [] q j s t h = subst (λ (l : List Statement). today_all l s ≡ Went t) q h
others_go p m xs (y ∷ ys) q j s t h =
    let k = taken_judged p m xs y q.0 q.1 j in
    let a = went_parts (today_does y s) (today_all q.0) t (take_goes p m xs y q.0 q.1 j s t h) in
    rw a.1 (others_go p m q.0 ys q.2 k.1 a.0 t a.2)

pub order_is_free : OrderIsFree
order_is_free p m b c j ys q s t h = others_go p m (judged_statements p m b c) ys q (all_judged p m b c j) s t
    (all_are_lines p m b c j s ∙ h)

abbrev ending_of : Run → Option Ending
ending_of r = (meaning_of_run r).ending

-- the first statement of the lines before the taken one, or after it
later_ending : (f g : TodayState → Run) (r q : Run) (w : TodayState) (rest more : TodayState → Run) → Commute f g r q
    → q ≡ Went w
    → ((u z : TodayState) → r ≡ Went u → g u ≡ Went z → ending_of (rest z) ≡ ending_of (more u))
    → ending_of (today_and_then (f w) rest) ≡ ending_of (today_and_then r more)
later_ending f g (Went u) (Went t) w rest more c h k =
    let e : t ≡ w = cc in
    let m : f w ≡ Went c.0 = ap f (sym e) ∙ c.2 in
    rw m (k u c.0 refl c.1)
later_ending f g (Ends e log) (Went t) w rest more c h k =
    let m : f w ≡ Ends e t.log = ap f (let e : w ≡ t = cc in e) ∙ c in rw m refl
later_ending f g (Stops log) (Went t) w rest more c h k =
    let m : f w ≡ Stops t.log = ap f (let e : w ≡ t = cc in e) ∙ c in rw m refl
later_ending f g (Went u) (Ends e log) w rest more c h k = absurd (cc)
later_ending f g (Went u) (Stops log) w rest more c h k = absurd (cc)
later_ending f g (Ends e log) (Ends d more_log) w rest more c h k = absurd (cc)
later_ending f g (Ends e log) (Stops more_log) w rest more c h k = absurd (cc)
later_ending f g (Stops log) (Ends d more_log) w rest more c h k = absurd (cc)
later_ending f g (Stops log) (Stops more_log) w rest more c h k = absurd (cc)

ending_stays : (p : Code) (m : Definition) (xs : List Statement) (x : Statement) (rest : List Statement)
    → Takes p m xs x rest → AreAllJudged p m xs → (s t : TodayState)
    → today_does x s ≡ Went t → ending_of (today_all rest t) ≡ ending_of (today_all xs s)
ending_stays p m [] x rest q j s t h = absurd q
ending_stays p m (first ∷ more) x rest (inl q) j s t h = rw (q.0, q.1, h) refl
ending_stays p m (first ∷ more) x rest (inr q) j s t h =
    let k = (taken_judged p m more x q.0 q.3 j.1).0 in
    rw q.1
    (later_ending (today_does first) (today_does x) (today_does first s) (today_does x s) t (today_all q.0)
    (today_all more)
    (apart_commute p m first x j.0 k q.2 s) h
    (λ u z e g. ending_stays p m more x q.0 q.3 j.1 u z g))

pub taking_keeps_ending : TakingKeepsEnding
taking_keeps_ending p m b c j x rest q s t h =
    ending_stays p m (judged_statements p m b c) x rest q (all_judged p m b c j) s t h ∙ ap ending_of (all_are_lines p m b
    c j s)
