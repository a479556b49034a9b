-- Rows stay reached where a statement takes another stage.
use Rattle.std.proofs.Common.{◌≡◌, refl, ap, sym, subst, ◌∙◌, arith, ℕ, zero, suc, ℤ, List, [], ◌∷◌}
use Rattle.std.proofs.Common.{◌++◌, Option, None, Some}
use Rattle.std.specs.Prelude.{slice_get}
use Rattle.std.specs.List.{flat_map}
use Rattle.std.proofs.lemmas.Grind.{flat_map-append}
use Rattle.std.proofs.lemmas.Option.{same_Some}
use Rattle.ae_tree.specs.Plain.{Expression, Lines, Code}
use Rattle.ae_tree.specs.Plain.{Action, Repeats}
use Rattle.ae_semantics.specs.Observations.{Seen, Query, AtBlock, AtEnd, Notes}
use Rattle.ae_semantics.specs.Report.{CellReport, last_in}
use Rattle.ae_text.specs.declared.refusal.Spot.{Spot}
use Rattle.ae_semantics.specs.Places.{CellName, State}
use Rattle.ae_semantics.specs.Runs.{Run, Went, Ends, Stops, and_then, Where, Machine}
use Rattle.ae_semantics.specs.Meaning.{again, one, many, below}
use Rattle.ae_semantics.specs.Means.{stops_at}
use Rattle.ae_semantics.specs.Atom.{by_query, flow_machine}
use Rattle.ae_semantics.specs.Gathering.{doing, Extends}
use Rattle.ae_semantics.specs.Moments.{notes_from}
use Rattle.ae_semantics.specs.BlockTrees.{Happened, answered_in}
use Rattle.ae_semantics.specs.Stacks.{TheStatement, TheTurns, done_all, cells_entered_in}
use Rattle.ae_semantics.specs.BlockRows.{RowStage, Waiting, LeftOut, Loop, Paused, BlockRow, inner_of}
use Rattle.ae_semantics.specs.BlockRows.{RowStatement}
use Rattle.ae_semantics.specs.StageClaims.{TellsGained}
use Rattle.ae_semantics.specs.Reached.{IsStageRight}
use Rattle.ae_semantics.specs.RowTrees.{nothing_gained, gained_in, cells_left_by, all_stages, row_events, seen_in}
use Rattle.ae_semantics.specs.RowTrees.{Reached}
use Rattle.ae_semantics.specs.RowSteps.{changed_at, staged, IsAt, IsNotThrough}
use Rattle.ae_semantics.specs.RowSteps.{StepKeeps, LeavingOutKeeps, StartingKeeps, LoopingKeeps}
use Rattle.ae_semantics.proofs.RowsAnswered.{answering_keeps}
use mathlib.Core.Path.{fun_ext}
use Rattle.ae_semantics.proofs.RowsKept.{at_has_stage, stage_keeps}

-- ---- what the rows have gained

-- another stage that gives the same
changed_gives : {A : Type 0} (give : RowStage → List A) (n : ℕ) (old new : RowStage) → give old ≡ give new
    → (xs : List RowStage) → slice_get xs n ≡ Some old
    → flat_map give (changed_at n (λ z. new) xs) ≡ flat_map give xs
changed_gives give n old new e [] h = refl
changed_gives give zero old new e (x ∷ xs) h = ap (λ ys. ys ++ flat_map give xs)
    (sym e ∙ ap give (sym (same_Some x old h)))
changed_gives give (suc n) old new e (x ∷ xs) h = ap (λ ys. give x ++ ys) (changed_gives give n old new e xs h)

-- and so for all rows
pub staged_gives : {A : Type 0} (give : RowStage → List A) (old new : RowStage) → give old ≡ give new
    → (rows : List BlockRow) (k n : ℕ) → ((r : BlockRow) → slice_get rows k ≡ Some r → slice_get r.stages n ≡ Some old)
    → flat_map give (all_stages (staged k n new rows)) ≡ flat_map give (all_stages rows)
staged_gives give old new e [] k n h = refl
staged_gives give old new e (r ∷ rs) zero n h =
    flat_map-append give (changed_at n (λ z. new) r.stages) (all_stages rs)
    ∙ ap (λ ys. ys ++ flat_map give (all_stages rs)) (changed_gives give n old new e r.stages (h r refl))
    ∙ sym (flat_map-append give r.stages (all_stages rs))
staged_gives give old new e (r ∷ rs) (suc k) n h =
    flat_map-append give r.stages (all_stages (staged k n new rs))
    ∙ ap (λ ys. flat_map give r.stages ++ ys) (staged_gives give old new e rs k n h)
    ∙ sym (flat_map-append give r.stages (all_stages rs))

-- rows that have gained the same answer the same
pub same_seen : (rows news : List BlockRow) → row_events news ≡ row_events rows
    → flat_map cells_left_by (all_stages news) ≡ flat_map cells_left_by (all_stages rows)
    → (q : Query) → seen_in rows q ≡ seen_in news q
same_seen rows news e f (AtBlock ask) = ap (λ (es : List Happened). answered_in es ask.path) (sym e)
same_seen rows news e f (AtEnd c first) = ap (λ (cs : List CellReport). last_in cs c) (sym f)

pub answered_step_keeps : StepKeeps
answered_step_keeps p ints fuel rows k n x old new h a u w none more right =
    let news : List BlockRow = staged k n new rows in
    stage_keeps p ints fuel (seen_in news) rows k n x old new
    (answering_keeps p ints fuel (seen_in rows) (seen_in news) rows more h) a u w none right

-- a stage in which nothing is gained is taken by a statement that waits
quiet_keeps : (p : Code) (ints : List ℤ) (fuel : ℕ) (rows : List BlockRow) (k n : ℕ) (x : RowStatement)
    (new : RowStage) → [] ≡ (gained_in new).events → [] ≡ cells_left_by new → Reached p ints fuel rows
    → IsAt p rows k n x Waiting → IsNotThrough new → inner_of new ≡ None → IsStageRight p (seen_in rows) rows x new
    → Reached p ints fuel (staged k n new rows)
quiet_keeps p ints fuel rows k n x new e f h a w none right =
    let news : List BlockRow = staged k n new rows in
    let at = at_has_stage p rows k n x Waiting a in
    let same : seen_in rows ≡ seen_in news = fun_ext (same_seen rows news
    (staged_gives (λ (y : RowStage). (gained_in y).events) Waiting new e rows k n at)
    (staged_gives cells_left_by Waiting new f rows k n at)) in
    answered_step_keeps p ints fuel rows k n x Waiting new h a tt w none
    (subst (Extends (seen_in rows)) same (λ q y i. i))
    (subst (λ (table : Query → Option Seen). IsStageRight p table rows x new) same right)

-- ---- the steps

pub leaving_out_keeps : LeavingOutKeeps
leaving_out_keeps p ints fuel rows k n x h a b
    = quiet_keeps p ints fuel rows k n x LeftOut refl refl h a tt refl b

-- a run that has nothing behind it
then_nothing : {W : Type 0} (r : Run W) → r ≡ and_then r (λ s n. Went s n)
then_nothing (Went s n) = refl
then_nothing (Ends e n) = refl
then_nothing (Stops n) = refl

-- no marks tell of nothing
nothing_told : (table : Query → Option Seen) (still : List CellName) → TellsGained table still [] nothing_gained
nothing_told table still = record {
  asked = refl;
  entered = refl;
  answers = λ y c. absurd (omega (arith, c.1));
  ends = λ y c. absurd (omega (arith, c.1));
}

pub starting_keeps : StartingKeeps
starting_keeps p ints fuel rows k n x m h a free found =
    quiet_keeps p ints fuel rows k n x
    (Paused m (TheStatement x.fuel x.passage.here x.at x.action ∷ []) m nothing_gained) refl refl h a tt refl (
      free,
      record {
        found = found;
        marks = [];
        comes = λ more e. (then_nothing _, then_nothing _);
        told = nothing_told (seen_in rows) [];
      },
    )

-- a loop comes to its first turn
loop_comes : {W : Type 0} (m : Machine W) (fuel : ℕ) (here : Where) (at : Spot) (s : State) (k : Notes W) (a : Action)
    (e : Expression) (n : ℕ) (b : Lines) → a ≡ Repeats e n b
    → doing m fuel here at a s k ≡ done_all m (TheTurns fuel here 0 at e b ∷ []) s k
unfolding one many
loop_comes m fuel here at s k a e n b i = ap (λ (y : Action). doing m fuel here at y s k) i
    ∙ then_nothing (again m (below m fuel) here 0 at e b s k)

pub looping_keeps : LoopingKeeps
looping_keeps p ints fuel rows k n x m e number b loop h a free found =
    quiet_keeps p ints fuel rows k n x (Loop 0 x.fuel m nothing_gained) refl refl h a tt refl (
      free,
      (
        e,
        number,
        b,
        m,
        loop,
        record {
          found = found;
          marks = [];
          comes = λ more i. (
            (loop_comes) (stops_at p (by_query more)) x.fuel x.passage.here x.at m.state (notes_from m) x.action e number
                b loop,
            loop_comes (flow_machine p more) x.fuel x.passage.here x.at m.state (notes_from m) x.action e number b loop,
          );
          told = nothing_told (seen_in rows) (cells_entered_in (TheTurns x.fuel x.passage.here 0 x.at e b ∷ []));
        },
      ),
    )
