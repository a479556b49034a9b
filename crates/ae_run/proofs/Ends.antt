-- A run that is over has the ending and the output of the run in source order.
use Rattle.std.proofs.Common.{◌≡◌, ◌<◌, ◌+◌, ◌⊎◌, inl, inr, ℕ, zero, suc, true, false, not, List, [], ◌∷◌}
use Rattle.std.proofs.Common.{◌++◌, length, take, append_assoc, Option, None, Some, IsSome, refl, ap, sym, ◌∙◌}
use Rattle.std.proofs.Common.{arith, subst}
use Rattle.std.proofs.lemmas.Bool.{cases_order, not-true, not-false}
use Rattle.ae_tree.specs.Plain.{Lines, End, Next}
use Rattle.ae_tree.specs.Limits.{statement_count}
use Rattle.ae_rules.specs.Edges.{BlockUses, Edge}
use Rattle.ae_graph.specs.Graph.{Graph, IsGraphOf}
use Rattle.ae_meaning.specs.declared.report.Ending.{Ending}
use Rattle.ae_meaning.specs.Values.{Env, empty}
use Rattle.ae_meaning.specs.Meaning.{TodayState, Run, Went, Ends, Stops, today_and_then, today_one, today_many}
use Rattle.ae_meaning.specs.Meaning.{begin, meaning_of_run}
use Rattle.ae_meaning.specs.Frame.{behind_bytes, AddsToTheLog}
use Rattle.ae_run.specs.declared.course.Fate.{Fate}
use Rattle.ae_run.specs.declared.course.Fate.TheVariants as fate
use Rattle.ae_run.specs.declared.course.First.{First}
use Rattle.ae_run.specs.Flow.{alone, locals_after, found_from, turn, Prints}
use Rattle.ae_run.specs.Course.{is_went, is_taken, fate_at, went, was_taken, piece_of, pieces, IsAtOrBehind, IsFate}
use Rattle.ae_run.specs.Course.{IsFirst, IsRight, IsOver, course_ending, course_end}
use Rattle.ae_run.proofs.Deeds.{unprinted}
use Rattle.ae_run.proofs.Closed.{Sought, Least, Nowhere, seek}
use Rattle.ae_run.proofs.Pieces.{append_nil}
use Rattle.ae_run.proofs.from_text.Basics.{no_test_is_both}

-- a statement went through with this fate
abbrev PrintsFate : Run → Fate → Type 0
PrintsFate run fate.Waiting = ⊥
PrintsFate run (fate.Went piece) = Prints run piece
PrintsFate run fate.Stopped = ⊥

-- the statements from a number on
abbrev rest_from : ℕ → Lines → Lines
rest_from zero b = b
rest_from (suc j) End = End
rest_from (suc j) (Next at a rest) = rest_from j rest

abbrev state : Env → List ℕ → TodayState
state env log = record { env = env; log = log }

prints_behind : (r : Run) (env : Env) (log : List ℕ) (f : Fate) → PrintsFate r f
    → behind_bytes log r ≡ Went (state (locals_after r env) (log ++ piece_of f))
prints_behind r env log fate.Waiting h = absurd h
prints_behind r env log fate.Stopped h = absurd h
prints_behind (Went s) env log (fate.Went piece) h = ap (λ p. Went (state s.env (log ++ p))) h
prints_behind (Ends ending more) env log (fate.Went piece) h = absurd h
prints_behind (Stops more) env log (fate.Went piece) h = absurd h

no_fate : (f : Fate) → PrintsFate (Stops []) f → ⊥
no_fate fate.Waiting h = h
no_fate (fate.Went piece) h = h
no_fate fate.Stopped h = h

many_prefix : AddsToTheLog → (b : Lines) (env : Env) (log : List ℕ) (fs : List Fate) (j : ℕ)
    → ((k : ℕ) → k < j → PrintsFate (alone b k (found_from env b k)) (fate_at fs k))
    → today_many b (state env log) ≡ today_many (rest_from j b) (state (found_from env b j) (log ++ pieces (take j fs)))
many_prefix adds b env log fs zero h = ap (λ l. today_many b (state env l)) (sym (append_nil log))
many_prefix adds End env log fs (suc j) h = absurd (no_fate (fate_at fs 0) (h 0 (omega arith)))
many_prefix adds (Next at a rest) env log [] (suc j) h = absurd (h 0 (omega arith))
many_prefix adds (Next at a rest) env log (f ∷ fs) (suc j) h =
    let r = today_one at a (unprinted env) in
    let w : today_one at a (state env log) ≡ Went (state (locals_after r env) (log ++ piece_of f)) = adds at a env log
    ∙ prints_behind r env log f (h 0 (omega arith)) in
    ap (λ (x : Run). today_and_then x (today_many rest)) w
    ∙ many_prefix adds rest (locals_after r env) (log ++ piece_of f) fs j (λ i l. h (suc i) (omega arith))
    ∙ ap (λ l. today_many (rest_from j rest) (state (found_from (locals_after r env) rest j) l))
    (append_assoc log (piece_of f) (pieces (take j fs)))

rest_ends : AddsToTheLog → (b : Lines) (j : ℕ) (env : Env) (log : List ℕ) (ending : Ending)
    → alone b j env ≡ Ends ending [] → today_many (rest_from j b) (state env log) ≡ Ends ending log
rest_ends adds End zero env log ending h = absurd (cc)
rest_ends adds End (suc j) env log ending h = absurd (cc)
rest_ends adds (Next at a rest) zero env log ending h =
    ap (λ (x : Run). today_and_then x (today_many rest))
    (adds at a env log ∙ ap (behind_bytes log) h ∙ ap (λ l. Ends ending l) (append_nil log))
rest_ends adds (Next at a rest) (suc j) env log ending h = rest_ends adds rest j env log ending h

rest_stops : AddsToTheLog → (b : Lines) (j : ℕ) (env : Env) (log : List ℕ) → j < statement_count b
    → alone b j env ≡ Stops [] → today_many (rest_from j b) (state env log) ≡ Stops log
rest_stops adds End j env log l h = absurd (omega arith)
rest_stops adds (Next at a rest) zero env log l h =
    ap (λ (x : Run). today_and_then x (today_many rest))
    (adds at a env log ∙ ap (behind_bytes log) h ∙ ap (λ m. Stops m) (append_nil log))
rest_stops adds (Next at a rest) (suc j) env log l h = rest_stops adds rest j env log (omega arith) h

rest_over : (b : Lines) → rest_from (statement_count b) b ≡ End
rest_over End = refl
rest_over (Next at a rest) = let e : statement_count rest + 1 ≡ suc (statement_count rest) = omega arith in ap
    (λ n. rest_from n (Next at a rest)) e ∙ rest_over rest

-- ---- the three ends

went_fate : (b : Lines) (known : Option First) (k : ℕ) (f : Fate) → is_went f ≡ true → IsFate b known k f
    → PrintsFate (turn b k) f
went_fate b known k fate.Waiting t h = absurd (cc)
went_fate b known k (fate.Went piece) t h = h
went_fate b known k fate.Stopped t h = absurd (cc)

before_end : AddsToTheLog → (b : Lines) (uses : BlockUses) (fs : List Fate) (known : Option First) (s : TodayState)
    → IsRight b uses fs known s → (j : ℕ) → ((k : ℕ) → k < j → not (went fs k) ≡ false)
    → today_many b begin ≡ today_many (rest_from j b) (state (found_from empty b j) (pieces (take j fs)))
before_end adds b uses fs known s r j all = many_prefix adds b empty [] fs j
    (λ k l. went_fate b known k (fate_at fs k) (not-false (went fs k) (all k l)) (r.fates k))

-- a run's answer is its ending and its output in source order
abbrev pub Answered : Lines → List Fate → Option First → Type 0
Answered b fs known = (Some (course_ending known) ≡ (meaning_of_run (today_many b begin)).ending)
    × (pieces (take (course_end known (length fs)) fs) ≡ (meaning_of_run (today_many b begin)).out)

stopped_not_went : (fs : List Fate) (i : ℕ) → fate_at fs i ≡ fate.Stopped → went fs i ≡ false
stopped_not_went fs i e = ap is_went e

all_went : AddsToTheLog → (b : Lines) (uses : BlockUses) (fs : List Fate) (known : Option First) (s : TodayState)
    → IsRight b uses fs known s
    → IsFirst b fs known → ((k : ℕ) → k < length fs → not (went fs k) ≡ false) → Answered b fs known
all_went adds b uses fs None s r f all =
    let e : rest_from (length fs) b ≡ End = ap (λ n. rest_from n b) r.size ∙ rest_over b in
    let m : today_many b begin ≡ Went (state (found_from empty b (length fs)) (pieces (take (length fs) fs))) =
    before_end adds b uses fs None s r (length fs) all
    ∙ ap (λ (x : Lines). today_many x (state (found_from empty b (length fs)) (pieces (take (length fs) fs))))
    e in
    (ap (λ x. (meaning_of_run x).ending) (sym m), ap (λ x. (meaning_of_run x).out) (sym m))
all_went adds b uses fs (Some first) s r f all =
    absurd (no_test_is_both (went fs first.at) (not-false (went fs first.at) (all first.at f.0))
    (stopped_not_went fs first.at f.1))

stopped_least : AddsToTheLog → (b : Lines) (uses : BlockUses) (fs : List Fate) (known : Option First) (s : TodayState)
    → IsRight b uses fs known s → IsFirst b fs known → (d : ℕ) → d < length fs
    → ((k : ℕ) → k < d → not (went fs k) ≡ false) → IsSome (meaning_of_run (today_many b begin)).ending
    → IsAtOrBehind known d ⊎ (turn b d ≡ Stops []) → Answered b fs known
stopped_least adds b uses fs None s r f d l all some (inl h) = absurd h
stopped_least adds b uses fs (Some first) s r f d l all some (inl h) =
    let e : first.at ≡ d = elim (cases_order first.at d) [
      | inl q ↦ q
      | inr o ↦ elim o [
        | inl m ↦ absurd (no_test_is_both (went fs first.at) (not-false (went fs first.at) (all first.at m))
            (stopped_not_went fs first.at f.1))
        | inr m ↦ absurd (omega arith)
      ]
    ] in
    let n = first.at in
    let same : (k : ℕ) → k < n → not (went fs k) ≡ false = λ k m. all k (omega arith) in
    let m : today_many b begin ≡ Ends first.ending (pieces (take n fs)) = before_end adds b uses fs (Some first) s
    r n same
    ∙ rest_ends adds b n (found_from empty b n) (pieces (take n fs)) first.ending f.2 in
    (ap (λ x. (meaning_of_run x).ending) (sym m), ap (λ x. (meaning_of_run x).out) (sym m))
stopped_least adds b uses fs known s r f d l all some (inr h) =
    let c : d < statement_count b = subst (λ n. d < n) r.size l in
    let m : today_many b begin ≡ Stops (pieces (take d fs)) = before_end adds b uses fs known s r d all
    ∙ rest_stops adds b d (found_from empty b d) (pieces (take d fs)) c h in
    let none : IsSome (meaning_of_run (Stops (pieces (take d fs)))).ending =
    subst (λ (x : Run). IsSome (meaning_of_run x).ending) m some in
    absurd (cc)

at_least : AddsToTheLog → (b : Lines) (uses : BlockUses) (fs : List Fate) (known : Option First) (s : TodayState)
    → IsRight b uses fs known s
    → (d : ℕ) → d < length fs
    → ((k : ℕ) → k < d → not (went fs k) ≡ false) → IsSome (meaning_of_run (today_many b begin)).ending
    → (f : Fate) → is_taken f ≡ true → is_went f ≡ false → IsFate b known d f → Answered b fs known
at_least adds b uses fs known s r d l all some fate.Waiting t w h = absurd (cc)
at_least adds b uses fs known s r d l all some (fate.Went piece) t w h = absurd (cc)
at_least adds b uses fs known s r d l all some fate.Stopped t w h = stopped_least adds b uses fs known s r r.first
    d l all some h

finish_at : AddsToTheLog → (b : Lines) (uses : BlockUses) (g : Graph) → IsGraphOf uses (statement_count b) g
    → (fs : List Fate) (known : Option First) (s : TodayState) → IsRight b uses fs known s → IsOver g fs
    → IsSome (meaning_of_run (today_many b begin)).ending
    → Sought (λ j. not (went fs j)) (length fs) → Answered b fs known
finish_at adds b uses g graph fs known s r over some (Nowhere all) = all_went adds b uses fs known s r r.first all
finish_at adds b uses g graph fs known s r over some (Least d l h all) =
    let m : d < length g = subst (λ n. d < n) (r.size ∙ sym graph.0) l in
    let t : was_taken fs d ≡ true = over d m
    (λ i c. let e : Edge uses i d = ((graph.1 d m).exact i).0 c in not-false (went fs i) (all i e.before))
    in at_least adds b uses fs known s r d l all some (fate_at fs d) t (not-true (went fs d) h) (r.fates d)

-- what a run that is over has is what the run in source order has
pub finish : AddsToTheLog → (b : Lines) (uses : BlockUses) (g : Graph) → IsGraphOf uses (statement_count b) g
    → (fs : List Fate) (known : Option First) (s : TodayState) → IsRight b uses fs known s → IsOver g fs
    → IsSome (meaning_of_run (today_many b begin)).ending → Answered b fs known
finish adds b uses g graph fs known s r over some = finish_at adds b uses g graph fs known s r over some
    (seek (λ j. not (went fs j)) (length fs))
