-- Steps of a run under way that leave what was found as it was keep the rows right.
use Rattle.std.proofs.Common.{◌≡◌, refl, ap, sym, subst, arith, ℕ, zero, suc, List, [], ◌∷◌}
use Rattle.std.proofs.Common.{Option, None, Some, Contains}
use Rattle.std.specs.Prelude.{slice_get}
use Rattle.std.proofs.lemmas.Option.{same_Some}
use Rattle.ae_tree.specs.Plain.{Lines, End, Next, Code}
use Rattle.ae_rules.specs.Blocks.{Scene, scene_uses}
use Rattle.ae_rules.specs.Edges.{Uses}
use Rattle.ae_semantics.specs.Contexts.{after}
use Rattle.ae_semantics.specs.Observations.{Seen, Query}
use Rattle.ae_semantics.specs.Runs.{Where, knowing}
use Rattle.ae_semantics.specs.Moments.{Moment}
use Rattle.ae_semantics.specs.BlockRows.{RowStage, Waiting, Finished, Halted, LeftOut, Inside, Loop, InTurn, Paused}
use Rattle.ae_semantics.specs.BlockRows.{BlockRow, inner_of, found_after, unfinished_after, barred_after}
use Rattle.ae_semantics.specs.BlockRows.{RowStatement, statements_from}
use Rattle.ae_semantics.specs.Reached.{IsStageRight, AreRight}
use Rattle.ae_semantics.specs.RowSteps.{changed_at, IsUndone, IsNotThrough}
use Rattle.ae_semantics.proofs.StagesStill.{AreStill}
use Rattle.ae_semantics.proofs.StagesStill.{AreNumbersIn, right_still}

-- ---- what follows a statement by its stage

in_both_with_more : (j : ℕ) (small large : List ℕ) → AreNumbersIn small large → AreNumbersIn (j ∷ small) (j ∷ large)
in_both_with_more j small large h i (zero, l, e) = (0, omega arith, e)
in_both_with_more j small large h i (suc k, l, e) =
    let c : Contains large i = h i (k, omega (arith, l), e) in (suc c.0, omega (arith, c.1), c.2)

in_with_one_more : (j : ℕ) (xs : List ℕ) → AreNumbersIn xs (j ∷ xs)
in_with_one_more j xs i c = (suc c.0, omega (arith, c.1), c.2)

barred_still : (j : ℕ) (small large : List ℕ) (x : RowStage) → AreNumbersIn small large
    → AreNumbersIn (barred_after j small x) (barred_after j large x)
barred_still j small large Waiting h = h
barred_still j small large (Finished m gained) h = h
barred_still j small large (Halted e gained) h = in_both_with_more j small large h
barred_still j small large LeftOut h = in_both_with_more j small large h
barred_still j small large (Inside inner cells) h = h
barred_still j small large (Loop t fuel now gained) h = h
barred_still j small large (InTurn t fuel gained) h = h
barred_still j small large (Paused start stack now gained) h = h

-- after either of the two stages the same is found and unfinished, and after the second one more may be barred
record FollowsAs (u : Uses) (found : Moment) (j : ℕ) (unfinished barred : List ℕ) (old new : RowStage) : Type 0 where
  finds : found_after u found old ≡ found_after u found new
  waits : unfinished_after j unfinished old ≡ unfinished_after j unfinished new
  bars : AreNumbersIn (barred_after j barred old) (barred_after j barred new)

-- a stage before which nothing went through
abbrev IsAsWaiting : Uses → Moment → ℕ → List ℕ → List ℕ → RowStage → Type 0
IsAsWaiting u found j unfinished barred x = (found_after u found x ≡ found)
    × (unfinished_after j unfinished x ≡ j ∷ unfinished)
    × AreNumbersIn barred (barred_after j barred x)

not_through : (u : Uses) (found : Moment) (j : ℕ) (unfinished barred : List ℕ) (x : RowStage) → IsNotThrough x
    → IsAsWaiting u found j unfinished barred x
not_through u found j unfinished barred Waiting h = (refl, refl, λ i c. c)
not_through u found j unfinished barred (Finished m gained) h = absurd h
not_through u found j unfinished barred (Halted e gained) h = (refl, refl, in_with_one_more j barred)
not_through u found j unfinished barred LeftOut h = (refl, refl, in_with_one_more j barred)
not_through u found j unfinished barred (Inside inner cells) h = (refl, refl, λ i c. c)
not_through u found j unfinished barred (Loop t fuel now gained) h = (refl, refl, λ i c. c)
not_through u found j unfinished barred (InTurn t fuel gained) h = (refl, refl, λ i c. c)
not_through u found j unfinished barred (Paused start stack now gained) h = (refl, refl, λ i c. c)

undone_follows : (u : Uses) (found : Moment) (j : ℕ) (unfinished barred : List ℕ) (old new : RowStage) → IsUndone old
    → IsAsWaiting u found j unfinished barred new → FollowsAs u found j unfinished barred old new
undone_follows u found j unfinished barred Waiting new h w =
    record { finds = sym w.0; waits = sym w.1; bars = w.2 }
undone_follows u found j unfinished barred (Finished m gained) new h w = absurd h
undone_follows u found j unfinished barred (Halted e gained) new h w = absurd h
undone_follows u found j unfinished barred LeftOut new h w = absurd h
undone_follows u found j unfinished barred (Inside inner cells) new h w = absurd h
undone_follows u found j unfinished barred (Loop t fuel now gained) new h w =
    record { finds = sym w.0; waits = sym w.1; bars = w.2 }
undone_follows u found j unfinished barred (InTurn t fuel gained) new h w = absurd h
undone_follows u found j unfinished barred (Paused start stack now gained) new h w =
    record { finds = sym w.0; waits = sym w.1; bars = w.2 }

-- no block in it is a row
pub undone_flat : (x : RowStage) → IsUndone x → inner_of x ≡ None
undone_flat Waiting h = refl
undone_flat (Finished m gained) h = refl
undone_flat (Halted e gained) h = refl
undone_flat LeftOut h = refl
undone_flat (Inside inner cells) h = absurd h
undone_flat (Loop t fuel now gained) h = refl
undone_flat (InTurn t fuel gained) h = absurd h
undone_flat (Paused start stack now gained) h = refl

-- ---- the statements of a row

-- with more that is barred, and other rows that are there, all stay right
pub all_still : (p : Code) (table : Query → Option Seen) (rows news : List BlockRow) → AreStill rows news → (fuel : ℕ)
    (here : Where) (all : Scene) (j : ℕ) (b : Lines) (xs : List RowStage) (found : Moment)
    (unfinished barred more : List ℕ) → AreNumbersIn barred more
    → AreRight p table rows (statements_from p fuel here all j b xs found unfinished barred)
    → AreRight p table news (statements_from p fuel here all j b xs found unfinished more)
all_still p table rows news still fuel here all j End xs found unfinished barred more sub h = tt
all_still p table rows news still fuel here all j (Next at a rest) [] found unfinished barred more sub h = tt
all_still p table rows news still fuel here all j (Next at a rest) (x ∷ xs) found unfinished barred more sub h = (
  right_still p table rows news still _ more sub x h.0,
  all_still p table rows news still fuel (knowing (after p here.method at a here.context) here) all (suc j) rest xs
      (found_after (scene_uses p all j) found x) (unfinished_after j unfinished x) (barred_after j barred x)
      (barred_after j more x) (barred_still j barred more x sub) h.1,
)

-- also of what follows another stage
all_follow : (p : Code) (table : Query → Option Seen) (rows news : List BlockRow) → AreStill rows news → (fuel : ℕ)
    (here : Where) (all : Scene) (j i : ℕ) (b : Lines) (xs : List RowStage) (found : Moment)
    (unfinished barred : List ℕ) (old new : RowStage)
    → FollowsAs (scene_uses p all i) found i unfinished barred old new
    → AreRight p table rows (statements_from p fuel here all j b xs (found_after (scene_uses p all i) found old)
    (unfinished_after i unfinished old) (barred_after i barred old))
    → AreRight p table news (statements_from p fuel here all j b xs (found_after (scene_uses p all i) found new)
    (unfinished_after i unfinished new) (barred_after i barred new))
all_follow p table rows news still fuel here all j i b xs found unfinished barred old new f h =
    subst (λ (m : Moment). AreRight p table news (statements_from p fuel here all j b xs m
    (unfinished_after i unfinished new) (barred_after i barred new))) f.finds
    (subst (λ (ns : List ℕ). AreRight p table news (statements_from p fuel here all j b xs
    (found_after (scene_uses p all i) found old) ns (barred_after i barred new))) f.waits
    (all_still p table rows news still fuel here all j b xs (found_after (scene_uses p all i) found old)
    (unfinished_after i unfinished old) (barred_after i barred old) (barred_after i barred new) f.bars h))

-- what is listed at a number has the stage at that number
pub stage_listed : (p : Code) (fuel : ℕ) (here : Where) (all : Scene) (j : ℕ) (b : Lines) (xs : List RowStage)
    (found : Moment) (unfinished barred : List ℕ) (n : ℕ) (x : RowStatement) (s : RowStage)
    → slice_get (statements_from p fuel here all j b xs found unfinished barred) n ≡ Some (x, s)
    → slice_get xs n ≡ Some s
stage_listed p fuel here all j End xs found unfinished barred n x s e = absurd (cc)
stage_listed p fuel here all j (Next at a rest) [] found unfinished barred n x s e = absurd (cc)
stage_listed p fuel here all j (Next at a rest) (y ∷ ys) found unfinished barred zero x s e =
    ap Some (ap (λ (z : RowStatement × RowStage). z.1) (same_Some _ (x, s) e))
stage_listed p fuel here all j (Next at a rest) (y ∷ ys) found unfinished barred (suc n) x s e =
    stage_listed p fuel (knowing (after p here.method at a here.context) here) all (suc j) rest ys
    (found_after (scene_uses p all j) found y) (unfinished_after j unfinished y) (barred_after j barred y) n x s e

-- one statement that is not done gets another stage
pub stage_put : (p : Code) (table : Query → Option Seen) (rows news : List BlockRow) → AreStill rows news → (fuel : ℕ)
    (here : Where) (all : Scene) (j : ℕ) (b : Lines) (xs : List RowStage) (found : Moment)
    (unfinished barred : List ℕ) (n : ℕ) (x : RowStatement) (old new : RowStage)
    → slice_get (statements_from p fuel here all j b xs found unfinished barred) n ≡ Some (x, old)
    → IsUndone old → IsNotThrough new → IsStageRight p table news x new
    → AreRight p table rows (statements_from p fuel here all j b xs found unfinished barred)
    → AreRight p table news
    (statements_from p fuel here all j b (changed_at n (λ z. new) xs) found unfinished barred)
stage_put p table rows news still fuel here all j End xs found unfinished barred n x old new e u w r h = absurd (cc)
stage_put p table rows news still fuel here all j (Next at a rest) [] found unfinished barred n x old new e u w r h =
    absurd (cc)
stage_put p table rows news still fuel here all j (Next at a rest) (y ∷ ys) found unfinished barred zero x old new e
    u w r h =
    let i = same_Some _ (x, old) e in
    let g : IsUndone y = subst IsUndone (sym (ap (λ (z : RowStatement × RowStage). z.1) i)) u in (
      subst (λ (z : RowStatement). IsStageRight p table news z new) (sym (ap (λ
          (z : RowStatement × RowStage). z.0) i)) r,
      (all_follow) p table rows news still fuel (knowing (after p here.method at a here.context) here) all (suc j) j rest
          ys found unfinished barred y new
          (undone_follows (scene_uses p all j) found j unfinished barred y new g
          (not_through (scene_uses p all j) found j unfinished barred new w)) h.1,
    )
stage_put p table rows news still fuel here all j (Next at a rest) (y ∷ ys) found unfinished barred (suc n) x old new
    e u w r h = (
      right_still p table rows news still _ barred (λ k c. c) y h.0,
      stage_put p table rows news still fuel (knowing (after p here.method at a here.context) here) all (suc j) rest ys
          (found_after (scene_uses p all j) found y) (unfinished_after j unfinished y) (barred_after j barred y) n x old
          new e u w r h.1,
    )
