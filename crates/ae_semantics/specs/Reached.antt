-- When the rows of a run under way are right: each stage is what its statement does from what it finds. Nothing is said
-- of the whole run.
use Rattle.std.specs.Prelude.{◌≡◌, ◌≢◌, ◌⊎◌, ℕ, ℤ, List, [], ◌∷◌, ◌++◌, length, slice_get, Option, Some}
use Rattle.std.specs.Prelude.{Contains}
use Rattle.ae_tree.specs.Limits.{statement_count}
use Rattle.ae_tree.specs.Plain.{Code}
use Rattle.ae_semantics.specs.Observations.{Seen, Query}
use Rattle.ae_semantics.specs.Means.{Start, run_start}
use Rattle.ae_semantics.specs.Report.{AllPairs}
use Rattle.ae_semantics.specs.Entries.{Inner}
use Rattle.ae_semantics.specs.BlockTrees.{main_entry}
use Rattle.ae_semantics.specs.BlockRows.{RowStage, Waiting, Finished, Halted, LeftOut, Inside, Loop, InTurn}
use Rattle.ae_semantics.specs.BlockRows.{Paused, BlockRow, row_path, row_at_path, inner_path, inner_of, RowStatement}
use Rattle.ae_semantics.specs.BlockRows.{row_statements}
use Rattle.ae_semantics.specs.StageClaims.{IsUnhindered, IsBehindBarred, GoesThrough, EndsSo, RestsAt, IsBeforeTurn}
use Rattle.ae_semantics.specs.StageClaims.{IsRowThere, IsInBlock, IsRowOfTurn}

-- ---- rows

-- The stage is right for the statement. But for what waits or is left out, no unfinished statement before it is in
-- conflict with it.
abbrev pub IsStageRight : Code → (Query → Option Seen) → List BlockRow → RowStatement → RowStage → Type 0
IsStageRight p table rows x Waiting = Unit {0}
IsStageRight p table rows x (Finished m gained) = IsUnhindered p x × GoesThrough p table x m gained
IsStageRight p table rows x (Halted e gained) = IsUnhindered p x × EndsSo p table x e gained
IsStageRight p table rows x LeftOut = IsBehindBarred p x
IsStageRight p table rows x (Inside inner cells) = IsUnhindered p x × IsInBlock p rows x inner cells
IsStageRight p table rows x (Loop t fuel now gained) = IsUnhindered p x × IsBeforeTurn p table x t fuel now gained
IsStageRight p table rows x (InTurn t fuel gained) = IsUnhindered p x
    × IsRowThere rows (x.passage.here.path ++ (t ∷ [])) (IsRowOfTurn p table x t fuel gained)
IsStageRight p table rows x (Paused start stack now gained) = IsUnhindered p x × RestsAt p table x start stack now
    gained

-- and so is each of these
abbrev pub AreRight : Code → (Query → Option Seen) → List BlockRow → List (RowStatement × RowStage) → Type 0
AreRight p table rows [] = Unit {0}
AreRight p table rows (x ∷ xs) = IsStageRight p table rows x.0 x.1 × AreRight p table rows xs

-- the row has a stage for each statement, and each is right
pub record IsRowRight (p : Code) (table : Query → Option Seen) (rows : List BlockRow) (r : BlockRow) : Type 0 where
  pub counted : length r.stages ≡ statement_count r.entry.lines
  pub each : AreRight p table rows (row_statements p r)

-- the block of the row is one inside a statement of a row
pub record IsOfStatement (rows : List BlockRow) (r : BlockRow) : Type 0 where
  pub outer : BlockRow
  pub there : Contains rows outer
  pub number : ℕ
  pub stage : RowStage
  pub is : slice_get outer.stages number ≡ Some stage
  pub inner : Inner
  pub has : inner_of stage ≡ Some inner
  pub path : row_path r ≡ inner_path (row_path outer ++ (number ∷ [])) inner

-- The rows are right by these answers: the first is the body of `main` with this fuel, each is right, no two are of one
-- block, and each but the first is inside a statement of another.
pub record AreRowsRight (p : Code) (ints : List ℤ) (fuel : ℕ) (table : Query → Option Seen) (rows : List BlockRow)
    : Type 0 where
  pub begins : Start
  pub start : run_start p ints ≡ Some begins
  pub body : BlockRow
  pub first : row_at_path rows [] ≡ Some body
  pub entered : (body.entry ≡ main_entry begins) × (body.fuel ≡ fuel)
  pub each : (r : BlockRow) → Contains rows r → IsRowRight p table rows r
  pub differ : AllPairs (λ (r s : BlockRow). row_path r ≢ row_path s) rows
  pub inside : (r : BlockRow) → Contains rows r → (row_path r ≡ []) ⊎ IsOfStatement rows r
