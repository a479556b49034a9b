-- A block of a statement becomes a row: the body of a call, a branch, the block of a split, or a turn of a loop.
use Rattle.std.proofs.Common.{◌≡◌, ◌≢◌, refl, ap, subst, ◌∙◌, ℕ, zero, suc, ℤ, List, [], ◌∷◌, ◌++◌, Option}
use Rattle.std.proofs.Common.{None, Some, append-nil}
use Rattle.std.specs.Prelude.{slice_get}
use Rattle.std.specs.List.{flat_map}
use Rattle.std.proofs.lemmas.Grind.{flat_map-append}
use Rattle.std.proofs.lemmas.Option.{same_Some}
use mathlib.Core.Path.{fun_ext}
use Rattle.ae_tree.specs.Plain.{Action, Code}
use Rattle.ae_rules.specs.Instances.{Instance}
use Rattle.ae_semantics.specs.Places.{Fine}
use Rattle.ae_semantics.specs.Observations.{Seen, Query}
use Rattle.ae_semantics.specs.Report.{CellReport}
use Rattle.ae_semantics.specs.Regions.{same_instance}
use Rattle.ae_semantics.specs.Moments.{Moment}
use Rattle.ae_semantics.specs.Entries.{Inner, OfCall, OfBranch, OfTurn, OfSplit, Entry, entry}
use Rattle.ae_semantics.specs.BlockRows.{RowStage, Waiting, Inside, Loop, InTurn, BlockRow, row_at_path}
use Rattle.ae_semantics.specs.BlockRows.{inner_path}
use Rattle.ae_semantics.specs.BlockRows.{all_waiting, fresh_row, RowStatement, row_statements}
use Rattle.ae_semantics.specs.StageClaims.{IsRowInside, IsInBlock, IsRowThere, IsEnteredWith, IsBeforeTurn}
use Rattle.ae_semantics.specs.Reached.{IsStageRight, AreRight, AreRowsRight}
use Rattle.ae_semantics.specs.RowTrees.{gained_in, cells_left_by, all_stages, seen_in}
use Rattle.ae_semantics.specs.RowSteps.{staged, with_row_opened, IsAt, EnteringKeeps, TurningKeeps}
use Rattle.ae_semantics.proofs.LockNumbers.{contained}
use Rattle.ae_semantics.proofs.FreshRows.{waiting_give_none}
use Rattle.ae_semantics.proofs.EntryPaths.{entry_path, turn_values}
use Rattle.ae_semantics.proofs.RowsKept.{at_has_stage}
use Rattle.ae_semantics.proofs.StepsKeep.{staged_gives, same_seen}
use Rattle.ae_semantics.proofs.RowsOpened.{there_last, absent_still, same_itself, opening_keeps}

-- what is listed at a number is right
listed_right : (p : Code) (table : Query → Option Seen) (rows : List BlockRow) (xs : List (RowStatement × RowStage))
    → AreRight p table rows xs → (n : ℕ) (x : RowStatement) (s : RowStage) → slice_get xs n ≡ Some (x, s)
    → IsStageRight p table rows x s
listed_right p table rows [] h n x s e = absurd (cc)
listed_right p table rows (y ∷ ys) h zero x s e =
    subst (λ (z : RowStatement × RowStage). IsStageRight p table rows z.0 z.1) (same_Some y (x, s) e) h.0
listed_right p table rows (y ∷ ys) h (suc n) x s e = listed_right p table rows ys h.1 n x s e

-- a statement of a row is right as it stands
statement_at_right : (p : Code) (ints : List ℤ) (fuel : ℕ) (table : Query
    → Option Seen) (rows : List BlockRow) (k n : ℕ)
    (x : RowStatement) (s : RowStage) → AreRowsRight p ints fuel table rows → IsAt p rows k n x s
    → IsStageRight p table rows x s
statement_at_right p ints fuel table rows k n x s h (r, i, j) =
    listed_right p table rows (row_statements p r) (h.each r (contained rows k r i)).each n x s j

-- with one row more, in which all waits, the rows give the same
opened_gives : {A : Type 0} (give : RowStage → List A) → give Waiting ≡ [] → (old new : RowStage) → give old ≡ give new
    → (rows : List BlockRow) (k n f : ℕ) (e : Entry)
    → ((r : BlockRow) → slice_get rows k ≡ Some r → slice_get r.stages n ≡ Some old)
    → flat_map give (all_stages (with_row_opened k n new (fresh_row f e) rows)) ≡ flat_map give (all_stages rows)
opened_gives give w old new i rows k n f e at =
    let more : List BlockRow = fresh_row f e ∷ [] in
    ap (flat_map give) (flat_map-append (λ (r : BlockRow). r.stages) (staged k n new rows) more)
    ∙ flat_map-append give (all_stages (staged k n new rows)) (all_stages more)
    ∙ ap (λ ys. flat_map give (all_stages (staged k n new rows)) ++ ys)
    (ap (flat_map give) (append-nil (all_waiting e.lines)) ∙ waiting_give_none give w e.lines)
    ∙ append-nil (flat_map give (all_stages (staged k n new rows)))
    ∙ staged_gives give old new i rows k n at

-- they answer the same
opened_seen : (p : Code) (rows : List BlockRow) (k n : ℕ) (x : RowStatement) (old new : RowStage) (f : ℕ) (e : Entry)
    → (gained_in old).events ≡ (gained_in new).events → cells_left_by old ≡ cells_left_by new → IsAt p rows k n x old
    → seen_in rows ≡ seen_in (with_row_opened k n new (fresh_row f e) rows)
opened_seen p rows k n x old new f e g c a = fun_ext (same_seen rows (with_row_opened k n new (fresh_row f e) rows)
    (opened_gives (λ (y : RowStage). (gained_in y).events) refl old new g rows k n f e
    (at_has_stage p rows k n x old a))
    (opened_gives cells_left_by refl old new c rows k n f e (at_has_stage p rows k n x old a)))

-- the row is there
row_is_there : (rows : List BlockRow) (k n : ℕ) (new : RowStage) (f : ℕ) (e : Entry) (q : Instance) → e.here.path ≡ q
    → row_at_path rows q ≡ None → row_at_path (with_row_opened k n new (fresh_row f e) rows) q ≡ Some (fresh_row f e)
row_is_there rows k n new f e q path none = there_last (staged k n new rows) (fresh_row f e) q
    (absent_still rows k n new q none) (ap (λ (z : Instance). same_instance z q) path ∙ same_itself q)

-- no turn is a row so
no_turn_in_block : (p : Code) (rows : List BlockRow) (x : RowStatement) (inner : Inner) (cells : List CellReport)
    → ((t : ℕ) → inner ≢ OfTurn t)
    → IsRowThere rows (inner_path x.passage.here.path inner) (IsRowInside p x inner cells)
    → IsInBlock p rows x inner cells
no_turn_in_block p rows x OfCall cells h r = r
no_turn_in_block p rows x (OfBranch i) cells h r = r
no_turn_in_block p rows x (OfTurn t) cells h r = absurd (h t refl)
no_turn_in_block p rows x OfSplit cells h r = r

pub entering_keeps : EnteringKeeps
entering_keeps p ints fuel rows k n x inner cells f e h a free flat right none =
    let new : RowStage = Inside inner cells in
    let news : List BlockRow = with_row_opened k n new (fresh_row f e) rows in
    let path : e.here.path ≡ inner_path x.passage.here.path inner =
    entry_path p x.passage.here right.values x.action inner e right.enters.0 in
    subst (λ (table : Query → Option Seen). AreRowsRight p ints fuel table news)
    (opened_seen p rows k n x Waiting new f e refl refl a)
    (opening_keeps p ints fuel (seen_in rows) rows k n x Waiting new inner f e h a tt tt refl path none (
      free,
      (no_turn_in_block) p news x inner cells flat
          (fresh_row f e, row_is_there rows k n new f e (inner_path x.passage.here.path inner) path none, right),
    ))

pub turning_keeps : TurningKeeps
turning_keeps p ints fuel rows k n x t g now gained f e h a entered none =
    let new : RowStage = InTurn t g gained in
    let news : List BlockRow = with_row_opened k n new (fresh_row f e) rows in
    let path : e.here.path ≡ x.passage.here.path ++ (t ∷ []) =
    entry_path p x.passage.here now x.action (OfTurn t) e entered.0 in
    let right = statement_at_right p ints fuel (seen_in rows) rows k n x (Loop t g now gained) h a in
    let same : now ≡ e.values = turn_values p x.passage.here now right.1.0 right.1.1 right.1.2 t e
    (subst (λ (y : Action). entry p x.passage.here now y (OfTurn t) ≡ Fine e) right.1.4 entered.0) in
    subst (λ (table : Query → Option Seen). AreRowsRight p ints fuel table news)
    (opened_seen p rows k n x (Loop t g now gained) new f e refl refl a)
    (opening_keeps p ints fuel (seen_in rows) rows k n x (Loop t g now gained) new (OfTurn t) f e h a tt tt refl path
    none (
      right.0,
      (
        fresh_row f e,
        row_is_there rows k n new f e (x.passage.here.path ++ (t ∷ [])) path none,
        (
          subst (λ (m : Moment). IsBeforeTurn p (seen_in rows) x t g m gained) same right.1,
          subst (λ (m : Moment). IsEnteredWith p x g m (OfTurn t) (fresh_row f e)) same entered,
        ),
      ),
    ))
