-- All rows stay right where one statement that is not done gets another stage.
use Rattle.std.proofs.Common.{◌≡◌, ◌≢◌, ◌⊎◌, inl, inr, refl, ap, sym, subst, ◌∙◌, arith, ℕ, zero, suc, List, [], ◌∷◌}
use Rattle.std.proofs.Common.{◌++◌, Option, None, Some, Contains}
use Rattle.std.specs.Prelude.{slice_get}
use Rattle.std.proofs.lemmas.Option.{same_Some}
use Rattle.ae_tree.specs.Plain.{Code}
use Rattle.ae_rules.specs.Instances.{Instance}
use Rattle.ae_semantics.specs.Observations.{Seen, Query}
use Rattle.ae_semantics.specs.Report.{AllPairs}
use Rattle.ae_semantics.specs.Runs.{whole_block}
use Rattle.ae_semantics.specs.Entries.{Inner}
use Rattle.ae_semantics.specs.BlockRows.{RowStage, BlockRow, row_path, row_at_path, inner_of}
use Rattle.ae_semantics.specs.BlockRows.{RowStatement, row_statements, inner_path}
use Rattle.ae_semantics.specs.Reached.{IsStageRight, IsRowRight, IsOfStatement}
use Rattle.ae_semantics.specs.RowSteps.{with_stage, staged, IsAt, IsNotThrough, StageKeeps}
use Rattle.ae_semantics.proofs.LockNumbers.{contained}
use Rattle.ae_semantics.proofs.StagesStill.{holds_in_changed, changed_counted, changed_else, IsStill, there_still}
use Rattle.ae_semantics.proofs.StepLemmas.{stage_put, stage_listed, undone_flat, all_still}
use Rattle.ae_semantics.proofs.StagesStill.{AreStill, right_still}
use Rattle.ae_semantics.specs.RowSteps.{IsUndone, IsNotThrough}

-- ---- rows inside statements

-- a row that is there has a stage with a block in it; it is there still, with that stage
record KeepsStage (rows : List BlockRow) (o : BlockRow) (m : ℕ) (stage : RowStage) : Type 0 where
  outer : BlockRow
  there : Contains rows outer
  path : row_path outer ≡ row_path o
  is : slice_get outer.stages m ≡ Some stage

-- no block of statement n of the row k is a row
abbrev IsFlat : List BlockRow → ℕ → ℕ → Type 0
IsFlat rows k n = (r : BlockRow) → slice_get rows k ≡ Some r → (s : RowStage) → slice_get r.stages n ≡ Some s
    → inner_of s ≡ None

flat_is_no_inner : (s : RowStage) (inner : Inner) → inner_of s ≡ None → inner_of s ≡ Some inner → ⊥
flat_is_no_inner s inner e f = cc

stage_kept : (rows : List BlockRow) (k n : ℕ) (y : RowStage) → IsFlat rows k n → (o : BlockRow) → Contains rows o
    → (m : ℕ) (s : RowStage) (inner : Inner) → slice_get o.stages m ≡ Some s → inner_of s ≡ Some inner
    → KeepsStage (staged k n y rows) o m s
stage_kept [] k n y flat o c m s inner e f = absurd (omega (arith, c.1))
stage_kept (x ∷ xs) zero n y flat o (zero, l, i) m s inner e f =
    let g : slice_get x.stages m ≡ Some s = subst (λ (r : BlockRow). slice_get r.stages m ≡ Some s) (sym i) e in
    record {
      outer = with_stage n y x;
      there = (0, omega arith, refl);
      path = ap row_path i;
      is = changed_else n m (λ z. y) x.stages s
          (λ q. flat_is_no_inner s inner (flat x refl s (subst (λ h. slice_get x.stages h ≡ Some s) q g)) f) g;
    }
stage_kept (x ∷ xs) zero n y flat o (suc j, l, i) m s inner e f =
    record { outer = o; there = (suc j, omega (arith, l), i); path = refl; is = e }
stage_kept (x ∷ xs) (suc k) n y flat o (zero, l, i) m s inner e f =
    record { outer = o; there = (0, omega arith, i); path = refl; is = e }
stage_kept (x ∷ xs) (suc k) n y flat o (suc j, l, i) m s inner e f =
    let h : KeepsStage (staged k n y xs) o m s
    = stage_kept xs k n y flat o (j, omega (arith, l), i) m s inner e f in
    record {
      outer = h.outer;
      there = (suc h.there.0, omega (arith, h.there.1), h.there.2);
      path = h.path;
      is = h.is;
    }

-- a row with this path is still inside the statement
of_statement_still : (rows : List BlockRow) (k n : ℕ) (y : RowStage) → IsFlat rows k n → (r s : BlockRow)
    → row_path s ≡ row_path r → IsOfStatement rows r → IsOfStatement (staged k n y rows) s
of_statement_still rows k n y flat r s q h =
    let g : KeepsStage (staged k n y rows) h.outer h.number h.stage =
    stage_kept rows k n y flat h.outer h.there h.number h.stage h.inner h.is h.has in
    record {
      outer = g.outer;
      there = g.there;
      number = h.number;
      stage = h.stage;
      is = g.is;
      inner = h.inner;
      has = h.has;
      path = q ∙ h.path ∙ ap (λ (z : Instance). inner_path (z ++ (h.number ∷ [])) h.inner) (sym g.path);
    }

-- ---- paths

pub paths_differ_still : (rows : List BlockRow) (k n : ℕ) (y : RowStage)
    → AllPairs (λ (r s : BlockRow). row_path r ≢ row_path s) rows
    → AllPairs (λ (r s : BlockRow). row_path r ≢ row_path s) (staged k n y rows)
paths_differ_still [] k n y h = tt
paths_differ_still (x ∷ xs) zero n y h = h
paths_differ_still (x ∷ xs) (suc k) n y h = (
  holds_in_changed (λ (z : BlockRow). row_path x ≢ row_path z) (λ (z : BlockRow). row_path x ≢ row_path z) k
      (with_stage n y)
      xs h.0 (λ z q. q) (λ z e. h.0 z (contained xs k z e)),
  paths_differ_still xs k n y h.1,
)

-- ---- rows with another stage

-- the statement that is listed at a number has its stage there
pub at_has_stage : (p : Code) (rows : List BlockRow) (k n : ℕ) (x : RowStatement) (s : RowStage) → IsAt p rows k n x s
    → (r : BlockRow) → slice_get rows k ≡ Some r → slice_get r.stages n ≡ Some s
at_has_stage p rows k n x s (z, i, j) r e =
    subst (λ (y : BlockRow). slice_get y.stages n ≡ Some s) (same_Some z r (sym i ∙ e))
    (stage_listed p z.fuel z.entry.here (whole_block z.entry.lines z.entry.here) 0 z.entry.lines z.stages z.entry.values
    [] [] n x s j)

-- the rows are right among others that have all of them still
pub staged_right : (p : Code) (table : Query → Option Seen) (rows news : List BlockRow) (k n : ℕ) (x : RowStatement)
    (old new : RowStage) → AreStill rows news → ((r : BlockRow) → Contains rows r → IsRowRight p table rows r)
    → IsAt p rows k n x old → IsUndone old → IsNotThrough new → IsStageRight p table news x new
    → (z : BlockRow) → Contains (staged k n new rows) z → IsRowRight p table news z
staged_right p table rows news k n x old new still h (r, i, j) u w right =
    holds_in_changed (IsRowRight p table rows) (IsRowRight p table news) k (with_stage n new) rows h
    (λ z a. record {
      counted = a.counted;
      each = all_still p table rows news still z.fuel z.entry.here (whole_block z.entry.lines z.entry.here) 0
          z.entry.lines z.stages z.entry.values [] [] [] (λ m c. c) a.each;
    })
    changed_right
  where
    changed_right : (z : BlockRow) → slice_get rows k ≡ Some z → IsRowRight p table news (with_stage n new z)
    changed_right z e =
        let c : z ≡ r = same_Some z r (sym e ∙ i) in
        let a : IsRowRight p table rows z = h z (contained rows k z e) in
        record {
          counted = changed_counted n (λ s. new) z.stages ∙ a.counted;
          each = stage_put p table rows news still z.fuel z.entry.here (whole_block z.entry.lines z.entry.here) 0
              z.entry.lines z.stages z.entry.values [] [] n x old new
              (subst (λ (y : BlockRow). slice_get (row_statements p y) n ≡ Some (x, old)) (sym c) j) u w right a.each;
        }

-- each but the first is still inside a statement
pub staged_inside : (p : Code) (rows : List BlockRow) (k n : ℕ) (x : RowStatement) (old new : RowStage)
    → IsAt p rows k n x old → IsUndone old
    → ((r : BlockRow) → Contains rows r → (row_path r ≡ []) ⊎ IsOfStatement rows r)
    → (z : BlockRow) → Contains (staged k n new rows) z
    → (row_path z ≡ []) ⊎ IsOfStatement (staged k n new rows) z
staged_inside p rows k n x old new a u h =
    holds_in_changed (λ (z : BlockRow). (row_path z ≡ []) ⊎ IsOfStatement rows z)
    (λ (z : BlockRow). (row_path z ≡ []) ⊎ IsOfStatement (staged k n new rows) z) k (with_stage n new) rows h
    (λ z b. inside_still z z refl b)
    (λ z e. inside_still z (with_stage n new z) refl (h z (contained rows k z e)))
  where
    flat : IsFlat rows k n
    flat z e s f = subst (λ (y : RowStage). inner_of y ≡ None)
        (same_Some old s (sym (at_has_stage p rows k n x old a z e) ∙ f)) (undone_flat old u)

    inside_still : (z s : BlockRow) → row_path s ≡ row_path z → (row_path z ≡ []) ⊎ IsOfStatement rows z
        → (row_path s ≡ []) ⊎ IsOfStatement (staged k n new rows) s
    inside_still z s q (inl e) = inl (q ∙ e)
    inside_still z s q (inr o) = inr (of_statement_still rows k n new flat z s q o)

pub stage_keeps : StageKeeps
stage_keeps p ints fuel table rows k n x old new h a u w none right =
    let news : List BlockRow = staged k n new rows in
    let still = λ (q : Instance) (z : BlockRow) (e : row_at_path rows q ≡ Some z). there_still rows k n new q z e in
    let b : IsStill news [] h.body = still [] h.body h.first in
    record {
      begins = h.begins;
      start = h.start;
      body = b.row;
      first = b.there;
      entered = (b.entered ∙ h.entered.0, b.fuel ∙ h.entered.1);
      each = staged_right p table rows news k n x old new still h.each a u w
          (right_still p table rows news still x x.barred (λ m c. c) new right);
      differ = paths_differ_still rows k n new h.differ;
      inside = staged_inside p rows k n x old new a u h.inside;
    }
