-- Steps of a run under way, one statement at a time, which leave what was found as it was.
use Rattle.std.specs.Prelude.{◌≡◌, ◌≢◌, ℕ, zero, suc, ℤ, List, [], ◌∷◌, ◌++◌, Option, None, Some, slice_get}
use Rattle.ae_tree.specs.Plain.{Expression, Lines, Code}
use Rattle.ae_tree.specs.Plain.{Repeats}
use Rattle.ae_semantics.specs.Observations.{Seen, Query}
use Rattle.ae_semantics.specs.Moments.{Moment}
use Rattle.ae_semantics.specs.Entries.{Inner, OfTurn, Entry}
use Rattle.ae_semantics.specs.Report.{CellReport}
use Rattle.ae_semantics.specs.BlockTrees.{Gained}
use Rattle.ae_semantics.specs.Stacks.{TheStatement}
use Rattle.ae_semantics.specs.BlockRows.{RowStage, Waiting, Finished, LeftOut, Inside, Loop, InTurn, Paused}
use Rattle.ae_semantics.specs.BlockRows.{BlockRow, row_at_path, inner_of, inner_path, fresh_row, RowStatement}
use Rattle.ae_semantics.specs.BlockRows.{row_statements}
use Rattle.ae_semantics.specs.StageClaims.{IsUnhindered, IsBehindBarred, AreFound, IsRowInside, IsEnteredWith}
use Rattle.ae_semantics.specs.Reached.{IsStageRight, AreRowsRight}
use Rattle.ae_semantics.specs.Gathering.{Extends}
use Rattle.ae_semantics.specs.RowTrees.{nothing_gained, seen_in, Reached}

-- ---- another stage

-- another thing at this place of a list
abbrev pub changed_at : {A : Type 0} → ℕ → (A → A) → List A → List A
changed_at n f [] = []
changed_at zero f (x ∷ xs) = f x ∷ xs
changed_at (suc n) f (x ∷ xs) = x ∷ changed_at n f xs

-- the row with another stage of its statement of this number
abbrev pub with_stage : ℕ → RowStage → BlockRow → BlockRow
with_stage n y r = record r { stages = changed_at n (λ x. y) r.stages }

-- the rows with another stage of statement n of row k
abbrev pub staged : ℕ → ℕ → RowStage → List BlockRow → List BlockRow
staged k n y rows = changed_at k (with_stage n y) rows

-- this is statement n of row k, and this its stage
abbrev pub IsAt : Code → List BlockRow → ℕ → ℕ → RowStatement → RowStage → Type 0
IsAt p rows k n x stage = (r : BlockRow) × (slice_get rows k ≡ Some r)
    × (slice_get (row_statements p r) n ≡ Some (x, stage))

-- the statement is not done, and no block in it is a row
abbrev pub IsUndone : RowStage → Type 0
IsUndone Waiting = Unit {0}
IsUndone (Loop t fuel now gained) = Unit {0}
IsUndone (Paused start stack now gained) = Unit {0}
IsUndone _ = ⊥

-- the statement did not go through
abbrev pub IsNotThrough : RowStage → Type 0
IsNotThrough (Finished m gained) = ⊥
IsNotThrough _ = Unit {0}

-- the rows with another stage of statement n of row k, and with one row more
abbrev pub with_row_opened : ℕ → ℕ → RowStage → BlockRow → List BlockRow → List BlockRow
with_row_opened k n y r rows = staged k n y rows ++ (r ∷ [])

-- ---- steps

-- A statement that is not done gets another stage that is right for it by these answers: then all rows are right as
-- before. How a statement goes through is not among these steps.
abbrev pub StageKeeps : Type 0
StageKeeps = (p : Code) (ints : List ℤ) (fuel : ℕ) (table : Query → Option Seen) (rows : List BlockRow) (k n : ℕ)
    (x : RowStatement) (old new : RowStage) → AreRowsRight p ints fuel table rows → IsAt p rows k n x old
    → IsUndone old → IsNotThrough new → inner_of new ≡ None → IsStageRight p table rows x new
    → AreRowsRight p ints fuel table (staged k n new rows)

-- rows that are right by some answers are right by more
abbrev pub AnsweringKeeps : Type 0
AnsweringKeeps = (p : Code) (ints : List ℤ) (fuel : ℕ) (table more : Query → Option Seen) (rows : List BlockRow)
    → Extends table more → AreRowsRight p ints fuel table rows → AreRowsRight p ints fuel more rows

-- The same of rows that are reached. With what the new stage has gained more is answered: so a body goes on, and so a
-- statement ends.
abbrev pub StepKeeps : Type 0
StepKeeps = (p : Code) (ints : List ℤ) (fuel : ℕ) (rows : List BlockRow) (k n : ℕ) (x : RowStatement)
    (old new : RowStage) → Reached p ints fuel rows → IsAt p rows k n x old → IsUndone old → IsNotThrough new
    → inner_of new ≡ None → Extends (seen_in rows) (seen_in (staged k n new rows))
    → IsStageRight p (seen_in (staged k n new rows)) rows x new
    → Reached p ints fuel (staged k n new rows)

-- a statement that waits is left out, where one that ended or is left out is in conflict with it
abbrev pub LeavingOutKeeps : Type 0
LeavingOutKeeps = (p : Code) (ints : List ℤ) (fuel : ℕ) (rows : List BlockRow) (k n : ℕ) (x : RowStatement)
    → Reached p ints fuel rows → IsAt p rows k n x Waiting → IsBehindBarred p x
    → Reached p ints fuel (staged k n LeftOut rows)

-- a statement that waits is begun as a body, with values as it finds them
abbrev pub StartingKeeps : Type 0
StartingKeeps = (p : Code) (ints : List ℤ) (fuel : ℕ) (rows : List BlockRow) (k n : ℕ) (x : RowStatement) (m : Moment)
    → Reached p ints fuel rows → IsAt p rows k n x Waiting → IsUnhindered p x → AreFound p x m
    → Reached p ints fuel
    (staged k n (Paused m (TheStatement x.fuel x.passage.here x.at x.action ∷ []) m nothing_gained) rows)

-- a loop that waits comes before its first turn, with values as it finds them
abbrev pub LoopingKeeps : Type 0
LoopingKeeps = (p : Code) (ints : List ℤ) (fuel : ℕ) (rows : List BlockRow) (k n : ℕ) (x : RowStatement) (m : Moment)
    (e : Expression) (number : ℕ) (b : Lines) → x.action ≡ Repeats e number b
    → Reached p ints fuel rows → IsAt p rows k n x Waiting → IsUnhindered p x → AreFound p x m
    → Reached p ints fuel (staged k n (Loop 0 x.fuel m nothing_gained) rows)

-- A block of a statement that waits, and that is no loop, becomes a row, entered with values as the statement finds
-- them.
abbrev pub EnteringKeeps : Type 0
EnteringKeeps = (p : Code) (ints : List ℤ) (fuel : ℕ) (rows : List BlockRow) (k n : ℕ) (x : RowStatement)
    (inner : Inner) (cells : List CellReport) (f : ℕ) (e : Entry)
    → Reached p ints fuel rows → IsAt p rows k n x Waiting → IsUnhindered p x → ((t : ℕ) → inner ≢ OfTurn t)
    → IsRowInside p x inner cells (fresh_row f e) → row_at_path rows (inner_path x.passage.here.path inner) ≡ None
    → Reached p ints fuel (with_row_opened k n (Inside inner cells) (fresh_row f e) rows)

-- the next turn of a loop becomes a row, entered with what the turns before it left
abbrev pub TurningKeeps : Type 0
TurningKeeps = (p : Code) (ints : List ℤ) (fuel : ℕ) (rows : List BlockRow) (k n : ℕ) (x : RowStatement) (t g : ℕ)
    (now : Moment) (gained : Gained) (f : ℕ) (e : Entry)
    → Reached p ints fuel rows → IsAt p rows k n x (Loop t g now gained)
    → IsEnteredWith p x g now (OfTurn t) (fresh_row f e)
    → row_at_path rows (x.passage.here.path ++ (t ∷ [])) ≡ None
    → Reached p ints fuel (with_row_opened k n (InTurn t g gained) (fresh_row f e) rows)
