-- A statement that is not done gets another stage: all rows stay right.
use Rattle.std.proofs.Common.{◌≡◌, refl, ap, sym, subst, ◌∙◌, arith, ℕ, zero, suc, Bool, true, false}
use Rattle.std.proofs.Common.{if◌then◌else◌, List, [], ◌∷◌, length, Option, Some, Contains}
use Rattle.std.specs.Prelude.{slice_get}
use Rattle.std.proofs.lemmas.Option.{same_Some}
use Rattle.ae_tree.specs.Plain.{Code}
use Rattle.ae_rules.specs.Instances.{Instance}
use Rattle.ae_semantics.specs.Places.{Fine}
use Rattle.ae_semantics.specs.Observations.{Seen, Query}
use Rattle.ae_semantics.specs.Report.{CellReport}
use Rattle.ae_semantics.specs.Regions.{same_instance}
use Rattle.ae_semantics.specs.Moments.{Moment}
use Rattle.ae_semantics.specs.Entries.{Inner, OfCall, OfBranch, OfTurn, OfSplit, Entry, entry}
use Rattle.ae_semantics.specs.BlockTrees.{Gained}
use Rattle.ae_semantics.specs.Stacks.{ToDo}
use Rattle.ae_semantics.specs.BlockRows.{EndedAs, RowStage, Waiting, Finished, Halted, LeftOut, Inside, Loop, InTurn}
use Rattle.ae_semantics.specs.BlockRows.{Paused, BlockRow, row_path, row_at_path, inner_path}
use Rattle.ae_semantics.specs.BlockRows.{RowStatement}
use Rattle.ae_semantics.specs.StageClaims.{GoesThrough, EndsSo, RestsAt, IsBeforeTurn, IsRowInside}
use Rattle.ae_semantics.specs.StageClaims.{IsRowThere, IsInBlock, IsRowOfTurn}
use Rattle.ae_semantics.specs.Reached.{IsStageRight}
use Rattle.ae_semantics.specs.RowSteps.{changed_at, with_stage, staged}

-- ---- a list with another thing in it

-- what holds of all but the new thing, and of the new thing
pub holds_in_changed : {A : Type 0} (P Q : A → Type 0) (k : ℕ) (f : A → A) (xs : List A) → ((x : A) → Contains xs x
    → P x)
    → ((x : A) → P x → Q x) → ((x : A) → slice_get xs k ≡ Some x → Q (f x))
    → (y : A) → Contains (changed_at k f xs) y → Q y
holds_in_changed P Q k f [] h keep new y c = absurd (omega (arith, c.1))
holds_in_changed P Q zero f (x ∷ xs) h keep new y (zero, l, e) = subst Q e (new x refl)
holds_in_changed P Q zero f (x ∷ xs) h keep new y (suc i, l, e) = keep y (h y (suc i, omega (arith, l), e))
holds_in_changed P Q (suc k) f (x ∷ xs) h keep new y (zero, l, e) = keep y (h y (0, omega arith, e))
holds_in_changed P Q (suc k) f (x ∷ xs) h keep new y (suc i, l, e) =
    holds_in_changed P Q k f xs (λ z c. h z (suc c.0, omega (arith, c.1), c.2)) keep new y (i, omega (arith, l), e)

pub changed_counted : {A : Type 0} (n : ℕ) (f : A → A) (xs : List A) → length (changed_at n f xs) ≡ length xs
changed_counted n f [] = refl
changed_counted zero f (x ∷ xs) = omega arith
changed_counted (suc n) f (x ∷ xs) =
    let e : length (changed_at n f xs) ≡ length xs = changed_counted n f xs in omega arith

-- the other things stand where they stood
pub changed_else : {A : Type 0} (n m : ℕ) (f : A → A) (xs : List A) (x : A) → (m ≡ n → ⊥) → slice_get xs m ≡ Some x
    → slice_get (changed_at n f xs) m ≡ Some x
changed_else n m f [] x o e = e
changed_else zero zero f (y ∷ ys) x o e = absurd (o refl)
changed_else zero (suc m) f (y ∷ ys) x o e = e
changed_else (suc n) zero f (y ∷ ys) x o e = e
changed_else (suc n) (suc m) f (y ∷ ys) x o e = changed_else n m f ys x (λ i. o (omega (arith, i))) e

-- ---- rows by their paths

-- a row is still there, entered as it was
pub record IsStill (rows : List BlockRow) (q : Instance) (r : BlockRow) : Type 0 where
  pub row : BlockRow
  pub there : row_at_path rows q ≡ Some row
  pub fuel : row.fuel ≡ r.fuel
  pub entered : row.entry ≡ r.entry

pub there_still : (rows : List BlockRow) (k n : ℕ) (y : RowStage) (q : Instance) (r : BlockRow)
    → row_at_path rows q ≡ Some r
    → IsStill (staged k n y rows) q r
there_still [] k n y q r e = absurd (cc)
there_still (x ∷ xs) zero n y q r e = by_test (same_instance (row_path x) q) refl e
  where
    by_test : (b : Bool) → same_instance (row_path x) q ≡ b → (if b then Some x else row_at_path xs q) ≡ Some r
        → IsStill (with_stage n y x ∷ xs) q r
    by_test true i e = record {
      row = with_stage n y x;
      there = ap (λ (b : Bool). if b then Some (with_stage n y x) else row_at_path xs q) i;
      fuel = ap (λ (z : BlockRow). z.fuel) (same_Some x r e);
      entered = ap (λ (z : BlockRow). z.entry) (same_Some x r e);
    }
    by_test false i e = record {
      row = r;
      there = ap (λ (b : Bool). if b then Some (with_stage n y x) else row_at_path xs q) i ∙ e;
      fuel = refl;
      entered = refl;
    }
there_still (x ∷ xs) (suc k) n y q r e =
    by_test (λ d. there_still xs k n y q r d) (same_instance (row_path x) q) refl e
  where
    by_test : (row_at_path xs q ≡ Some r → IsStill (staged k n y xs) q r) → (b : Bool)
        → same_instance (row_path x) q ≡ b
        → (if b then Some x else row_at_path xs q) ≡ Some r → IsStill (x ∷ staged k n y xs) q r
    by_test h true i e = record {
      row = r;
      there = ap (λ (b : Bool). if b then Some x else row_at_path (staged k n y xs) q) i ∙ e;
      fuel = refl;
      entered = refl;
    }
    by_test h false i e =
        let s : IsStill (staged k n y xs) q r = h e in
        record {
          row = s.row;
          there = ap (λ (b : Bool). if b then Some x else row_at_path (staged k n y xs) q) i ∙ s.there;
          fuel = s.fuel;
          entered = s.entered;
        }

-- ---- what a stage says, of other rows and with more that is barred

-- the rows that are there are there still, entered as they were
abbrev pub AreStill : List BlockRow → List BlockRow → Type 0
AreStill rows news = (q : Instance) (r : BlockRow) → row_at_path rows q ≡ Some r → IsStill news q r

-- what the one list of numbers has, the other has
abbrev pub AreNumbersIn : List ℕ → List ℕ → Type 0
AreNumbersIn small large = (i : ℕ) → Contains small i → Contains large i

-- the statement with more that is barred
abbrev pub with_barred : List ℕ → RowStatement → RowStatement
with_barred more x = record x { barred = more }

through_still : (p : Code) (table : Query → Option Seen) (x : RowStatement) (more : List ℕ) (m : Moment)
    (gained : Gained) → GoesThrough p table x m gained → GoesThrough p table (with_barred more x) m gained
through_still p table x more m gained h = record {
  values = h.values;
  found = h.found;
  state = h.state;
  notes = h.notes;
  runs = h.runs;
  left = h.left;
  told = h.told;
}

ended_still : (p : Code) (table : Query → Option Seen) (x : RowStatement) (more : List ℕ) (e : EndedAs)
    (gained : Gained) → EndsSo p table x e gained → EndsSo p table (with_barred more x) e gained
ended_still p table x more e gained h = record {
  values = h.values;
  found = h.found;
  notes = h.notes;
  runs = h.runs;
  log = h.log;
  cell = h.cell;
  asked = h.asked;
  entered = h.entered;
  answers = h.answers;
  past = h.past;
}

rests_still : (p : Code) (table : Query → Option Seen) (x : RowStatement) (more : List ℕ) (values : Moment)
    (stack : List ToDo) (now : Moment) (gained : Gained) → RestsAt p table x values stack now gained
    → RestsAt p table (with_barred more x) values stack now gained
rests_still p table x more values stack now gained h = record {
  found = h.found;
  marks = h.marks;
  comes = h.comes;
  told = h.told;
}

before_turn_still : (p : Code) (table : Query → Option Seen) (x : RowStatement) (more : List ℕ) (t fuel : ℕ)
    (now : Moment) (gained : Gained) → IsBeforeTurn p table x t fuel now gained
    → IsBeforeTurn p table (with_barred more x) t fuel now gained
before_turn_still p table x more t fuel now gained (e, n, b, values, i, h) =
    (e, n, b, values, i, rests_still p table x more values _ now gained h)

inside_still : (p : Code) (x : RowStatement) (more : List ℕ) (inner : Inner) (cells : List CellReport)
    (rows news : List BlockRow) (q : Instance) → AreStill rows news → IsRowThere rows q (IsRowInside p x inner cells)
    → IsRowThere news q (IsRowInside p (with_barred more x) inner cells)
inside_still p x more inner cells rows news q still (r, e, h) =
    let s : IsStill news q r = still q r e in (
      s.row,
      s.there,
      record {
        values = h.values;
        found = h.found;
        enters = (h.enters.0 ∙ ap Fine (sym s.entered), h.enters.1 ∙ ap Some (sym s.fuel));
        cells_are = h.cells_are;
      },
    )

in_block_still : (p : Code) (x : RowStatement) (more : List ℕ) (inner : Inner) (cells : List CellReport)
    (rows news : List BlockRow) → AreStill rows news → IsInBlock p rows x inner cells
    → IsInBlock p news (with_barred more x) inner cells
in_block_still p x more OfCall cells rows news still h =
    inside_still p x more OfCall cells rows news (inner_path x.passage.here.path OfCall) still h
in_block_still p x more (OfBranch i) cells rows news still h =
    inside_still p x more (OfBranch i) cells rows news (inner_path x.passage.here.path (OfBranch i)) still h
in_block_still p x more (OfTurn t) cells rows news still h = absurd h
in_block_still p x more OfSplit cells rows news still h =
    inside_still p x more OfSplit cells rows news (inner_path x.passage.here.path OfSplit) still h

in_turn_still : (p : Code) (table : Query → Option Seen) (x : RowStatement) (more : List ℕ) (t fuel : ℕ)
    (gained : Gained) (rows news : List BlockRow) (q : Instance) → AreStill rows news
    → IsRowThere rows q (IsRowOfTurn p table x t fuel gained)
    → IsRowThere news q (IsRowOfTurn p table (with_barred more x) t fuel gained)
in_turn_still p table x more t fuel gained rows news q still (r, e, h) =
    let s : IsStill news q r = still q r e in
    let g : IsBeforeTurn p table (with_barred more x) t fuel r.entry.values gained =
    before_turn_still p table x more t fuel r.entry.values gained h.0 in (
      s.row,
      s.there,
      (
        subst (λ (y : Entry). IsBeforeTurn p table (with_barred more x) t fuel y.values gained) (sym s.entered) g,
        (
          subst (λ (y : Entry). entry p x.passage.here y.values x.action (OfTurn t) ≡ Fine y) (sym s.entered)
              h.1.0,
          h.1.1 ∙ ap Some (sym s.fuel),
        ),
      ),
    )

-- a stage that was right is right
pub right_still : (p : Code) (table : Query → Option Seen) (rows news : List BlockRow) → AreStill rows news
    → (x : RowStatement) (more : List ℕ) → AreNumbersIn x.barred more → (s : RowStage) → IsStageRight p table rows x s
    → IsStageRight p table news (with_barred more x) s
right_still p table rows news still x more sub Waiting h = tt
right_still p table rows news still x more sub (Finished m gained) h =
    (h.0, through_still p table x more m gained h.1)
right_still p table rows news still x more sub (Halted e gained) h = (h.0, ended_still p table x more e gained h.1)
right_still p table rows news still x more sub LeftOut (i, c, k) = (i, sub i c, k)
right_still p table rows news still x more sub (Inside inner cells) h =
    (h.0, in_block_still p x more inner cells rows news still h.1)
right_still p table rows news still x more sub (Loop t fuel now gained) h =
    (h.0, before_turn_still p table x more t fuel now gained h.1)
right_still p table rows news still x more sub (InTurn t fuel gained) h = (
  h.0,
  (in_turn_still) p table x more t fuel gained rows news (inner_path x.passage.here.path (OfTurn t)) still h.1,
)
right_still p table rows news still x more sub (Paused start stack now gained) h =
    (h.0, rests_still p table x more start stack now gained h.1)
