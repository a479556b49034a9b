-- Rows stay reached where a block of a statement becomes a row.
use Rattle.std.proofs.Common.{◌≡◌, ◌≢◌, ◌⊎◌, inl, inr, refl, ap, sym, subst, ◌∙◌, arith, ℕ, zero, suc, ℤ, Bool, true}
use Rattle.std.proofs.Common.{false}
use Rattle.std.proofs.Common.{if◌then◌else◌, ◌&&◌, List, [], ◌∷◌, ◌++◌, Option, None, Some, Contains}
use Rattle.std.specs.Prelude.{slice_get, ◌+◌}
use Rattle.std.proofs.lemmas.Option.{same_Some}
use Rattle.std.proofs.lemmas.List.Elements.{Contains-append_left, Contains-push_cases}
use Rattle.ae_tree.specs.Plain.{Lines, End, Next, Code}
use Rattle.ae_rules.specs.Blocks.{Scene, scene_uses}
use Rattle.ae_rules.specs.Instances.{Instance}
use Rattle.ae_rules.specs.Paths.{is_prefix_of}
use Rattle.ae_semantics.specs.Contexts.{after}
use Rattle.ae_semantics.specs.Observations.{Seen, Query}
use Rattle.ae_semantics.specs.Report.{AllPairs}
use Rattle.ae_semantics.specs.Regions.{same_instance}
use Rattle.ae_semantics.specs.Runs.{Where, knowing, whole_block}
use Rattle.ae_semantics.specs.Moments.{Moment}
use Rattle.ae_semantics.specs.Entries.{Inner, Entry}
use Rattle.ae_semantics.specs.BlockRows.{RowStage, BlockRow, row_path, row_at_path, inner_of, inner_path, fresh_row}
use Rattle.ae_semantics.specs.BlockRows.{found_after, unfinished_after, barred_after, RowStatement, statements_from}
use Rattle.ae_semantics.specs.Reached.{IsStageRight, IsRowRight, IsOfStatement, AreRowsRight}
use Rattle.ae_semantics.specs.RowSteps.{changed_at, with_stage, staged, with_row_opened, IsAt, IsUndone, IsNotThrough}
use Rattle.ae_semantics.proofs.Fresh.{begins_with_itself}
use Rattle.ae_semantics.proofs.FreshRows.{all_counted, waiting_all_right}
use Rattle.ae_semantics.proofs.StagesStill.{IsStill, there_still}
use Rattle.ae_semantics.proofs.RowsKept.{at_has_stage, staged_right, staged_inside, paths_differ_still}

-- ---- one row more

-- what is there is there still
there_before : (rows more : List BlockRow) (q : Instance) (r : BlockRow) → row_at_path rows q ≡ Some r
    → row_at_path (rows ++ more) q ≡ Some r
there_before [] more q r e = absurd (cc)
there_before (x ∷ xs) more q r e =
    by_test (λ d. there_before xs more q r d) (same_instance (row_path x) q) e
  where
    by_test : (row_at_path xs q ≡ Some r → row_at_path (xs ++ more) q ≡ Some r) → (b : Bool)
        → (if b then Some x else row_at_path xs q) ≡ Some r
        → (if b then Some x else row_at_path (xs ++ more) q) ≡ Some r
    by_test h true d = d
    by_test h false d = h d

-- a row of another path behind them is found
pub there_last : (rows : List BlockRow) (r : BlockRow) (q : Instance) → row_at_path rows q ≡ None
    → same_instance (row_path r) q ≡ true → row_at_path (rows ++ (r ∷ [])) q ≡ Some r
there_last [] r q e i = ap (λ (b : Bool). if b then Some r else None) i
there_last (x ∷ xs) r q e i = by_test (λ d. there_last xs r q d i) (same_instance (row_path x) q) e
  where
    by_test : (row_at_path xs q ≡ None → row_at_path (xs ++ (r ∷ [])) q ≡ Some r) → (b : Bool)
        → (if b then Some x else row_at_path xs q) ≡ None
        → (if b then Some x else row_at_path (xs ++ (r ∷ [])) q) ≡ Some r
    by_test h true d = absurd (cc)
    by_test h false d = h d

-- what is not there is not there with another stage
pub absent_still : (rows : List BlockRow) (k n : ℕ) (y : RowStage) (q : Instance) → row_at_path rows q ≡ None
    → row_at_path (staged k n y rows) q ≡ None
absent_still [] k n y q e = e
absent_still (x ∷ xs) zero n y q e = by_test (same_instance (row_path x) q) e
  where
    by_test : (b : Bool) → (if b then Some x else row_at_path xs q) ≡ None
        → (if b then Some (with_stage n y x) else row_at_path xs q) ≡ None
    by_test true d = absurd (cc)
    by_test false d = d
absent_still (x ∷ xs) (suc k) n y q e =
    by_test (λ d. absent_still xs k n y q d) (same_instance (row_path x) q) e
  where
    by_test : (row_at_path xs q ≡ None → row_at_path (staged k n y xs) q ≡ None) → (b : Bool)
        → (if b then Some x else row_at_path xs q) ≡ None
        → (if b then Some x else row_at_path (staged k n y xs) q) ≡ None
    by_test h true d = absurd (cc)
    by_test h false d = h d

-- a path is the same as itself
pub same_itself : (q : Instance) → same_instance q q ≡ true
same_itself q = ap (λ (b : Bool). b && is_prefix_of q q) (begins_with_itself q) ∙ begins_with_itself q

-- no row has a path that is not there
absent_differs : (rows : List BlockRow) (q : Instance) → row_at_path rows q ≡ None → (x : BlockRow) → Contains rows x
    → row_path x ≢ q
absent_differs [] q e x c i = omega (arith, c.1)
absent_differs (y ∷ ys) q e x c i = by_test (λ d. absent_differs ys q d) (same_instance (row_path y) q) refl e c
  where
    by_test : (row_at_path ys q ≡ None → (x : BlockRow) → Contains ys x → row_path x ≢ q) → (b : Bool)
        → same_instance (row_path y) q ≡ b → (if b then Some y else row_at_path ys q) ≡ None → Contains (y ∷ ys) x → ⊥
    by_test h true f d c = absurd (cc)
    by_test h false f d (zero, l, j) =
        let t : same_instance (row_path y) q ≡ true =
        ap (λ (z : Instance). same_instance z q) (ap row_path j ∙ i) ∙ same_itself q in
        absurd (cc)
    by_test h false f d (suc m, l, j) = h d x (m, omega (arith, l), j) i

-- one thing more that stands so to all before it
pairs_push : {A : Type 0} (rel : A → A → Type 0) (xs : List A) (y : A) → AllPairs rel xs
    → ((x : A) → Contains xs x → rel x y) → AllPairs rel (xs ++ (y ∷ []))
pairs_push rel [] y h k = (λ z c. absurd (omega (arith, c.1)), tt)
pairs_push rel (x ∷ xs) y h k = (
  λ z c. by_cases z (Contains-push_cases xs y z c),
  pairs_push rel xs y h.1 (λ z c. k z (suc c.0, omega (arith, c.1), c.2)),
)
  where
    by_cases : (z : _) → Contains xs z ⊎ (y ≡ z) → rel x z
    by_cases z (inl c) = h.0 z c
    by_cases z (inr e) = subst (rel x) e (k x (0, omega arith, refl))

-- ---- the statement that was with_row_opened

-- what is listed at a number stands there
path_listed : (p : Code) (fuel : ℕ) (here : Where) (all : Scene) (j : ℕ) (b : Lines) (xs : List RowStage)
    (found : Moment) (unfinished barred : List ℕ) (n i : ℕ) (x : RowStatement) (s : RowStage) → j + n ≡ i
    → slice_get (statements_from p fuel here all j b xs found unfinished barred) n ≡ Some (x, s)
    → x.passage.here.path ≡ here.path ++ (i ∷ [])
path_listed p fuel here all j End xs found unfinished barred n i x s l e = absurd (cc)
path_listed p fuel here all j (Next at a rest) [] found unfinished barred n i x s l e = absurd (cc)
path_listed p fuel here all j (Next at a rest) (y ∷ ys) found unfinished barred zero i x s l e =
    let m : j ≡ i = omega (arith, l) in
    sym (ap (λ (z : RowStatement × RowStage). z.0.passage.here.path) (same_Some _ (x, s) e))
    ∙ ap (λ (z : ℕ). here.path ++ (z ∷ [])) m
path_listed p fuel here all j (Next at a rest) (y ∷ ys) found unfinished barred (suc n) i x s l e =
    path_listed p fuel (knowing (after p here.method at a here.context) here) all (suc j) rest ys
    (found_after (scene_uses p all j) found y) (unfinished_after j unfinished y) (barred_after j barred y) n i x s
    (omega (arith, l)) e

-- the new stage stands in its row
stage_there : (n : ℕ) (old new : RowStage) (xs : List RowStage) → slice_get xs n ≡ Some old
    → slice_get (changed_at n (λ z. new) xs) n ≡ Some new
stage_there n old new [] e = absurd (cc)
stage_there zero old new (x ∷ xs) e = refl
stage_there (suc n) old new (x ∷ xs) e = stage_there n old new xs e

-- and the row among the rows
row_there : (rows : List BlockRow) (k n : ℕ) (y : RowStage) (r : BlockRow) → slice_get rows k ≡ Some r
    → Contains (staged k n y rows) (with_stage n y r)
row_there [] k n y r e = absurd (cc)
row_there (x ∷ xs) zero n y r e = (0, omega arith, ap (with_stage n y) (same_Some x r e))
row_there (x ∷ xs) (suc k) n y r e =
    let c = row_there xs k n y r e in (suc c.0, omega (arith, c.1), c.2)

-- what is inside a statement is so with one row more
inside_more : (rows : List BlockRow) (r s : BlockRow) → IsOfStatement rows s → IsOfStatement (rows ++ (r ∷ [])) s
inside_more rows r s h = record {
  outer = h.outer;
  there = Contains-append_left rows (r ∷ []) h.outer h.there;
  number = h.number;
  stage = h.stage;
  is = h.is;
  inner = h.inner;
  has = h.has;
  path = h.path;
}

-- ---- all rows

-- a block of a statement that is not done becomes a row
pub opening_keeps : (p : Code) (ints : List ℤ) (fuel : ℕ) (table : Query → Option Seen) (rows : List BlockRow)
    (k n : ℕ) (x : RowStatement) (old new : RowStage) (inner : Inner) (f : ℕ) (e : Entry)
    → AreRowsRight p ints fuel table rows → IsAt p rows k n x old → IsUndone old → IsNotThrough new
    → inner_of new ≡ Some inner → e.here.path ≡ inner_path x.passage.here.path inner
    → row_at_path rows (inner_path x.passage.here.path inner) ≡ None
    → IsStageRight p table (with_row_opened k n new (fresh_row f e) rows) x new
    → AreRowsRight p ints fuel table (with_row_opened k n new (fresh_row f e) rows)
opening_keeps p ints fuel table rows k n x old new inner f e h a u w has path none right =
    let r : BlockRow = fresh_row f e in
    let news : List BlockRow = with_row_opened k n new r rows in
    let b : IsStill news [] h.body = still [] h.body h.first in
    record {
      begins = h.begins;
      start = h.start;
      body = b.row;
      first = b.there;
      entered = (b.entered ∙ h.entered.0, b.fuel ∙ h.entered.1);
      each = λ z c. each_right z (Contains-push_cases (staged k n new rows) r z c);
      differ = pairs_push (λ (y z : BlockRow). row_path y ≢ row_path z) (staged k n new rows) r
          (paths_differ_still rows k n new h.differ) (λ y c i. apart y c (i ∙ path));
      inside = λ z c. each_inside z (Contains-push_cases (staged k n new rows) r z c);
    }
  where
    still : (q : Instance) (z : BlockRow) → row_at_path rows q ≡ Some z
        → IsStill (with_row_opened k n new (fresh_row f e) rows) q z
    still q z i =
        let s : IsStill (staged k n new rows) q z = there_still rows k n new q z i in
        record {
          row = s.row;
          there = there_before (staged k n new rows) (fresh_row f e ∷ []) q s.row s.there;
          fuel = s.fuel;
          entered = s.entered;
        }

    apart : (y : BlockRow) → Contains (staged k n new rows) y → row_path y ≢ inner_path x.passage.here.path inner
    apart = absent_differs (staged k n new rows) (inner_path x.passage.here.path inner)
        (absent_still rows k n new (inner_path x.passage.here.path inner) none)

    each_right : (z : BlockRow) → Contains (staged k n new rows) z ⊎ (fresh_row f e ≡ z)
        → IsRowRight p table (with_row_opened k n new (fresh_row f e) rows) z
    each_right z (inl c) = staged_right p table rows (with_row_opened k n new
        (fresh_row f e) rows) k n x old new still h.each a
        u w right z c
    each_right z (inr i) = subst (IsRowRight p table (with_row_opened k n new (fresh_row f e) rows)) i (record {
      counted = all_counted e.lines;
      each = waiting_all_right p table (with_row_opened k n new (fresh_row f e) rows) f e.here
          (whole_block e.lines e.here) 0 e.lines
          e.values [] [];
    })

    each_inside : (z : BlockRow) → Contains (staged k n new rows) z ⊎ (fresh_row f e ≡ z)
        → (row_path z ≡ []) ⊎ IsOfStatement (with_row_opened k n new (fresh_row f e) rows) z
    each_inside z (inl c) = further (staged_inside p rows k n x old new a u h.inside z c)
      where
        further : (row_path z ≡ []) ⊎ IsOfStatement (staged k n new rows) z
            → (row_path z ≡ []) ⊎ IsOfStatement (with_row_opened k n new (fresh_row f e) rows) z
        further (inl i) = inl i
        further (inr o) = inr (inside_more (staged k n new rows) (fresh_row f e) z o)
    each_inside z (inr i) = inr (subst (IsOfStatement (with_row_opened k n new (fresh_row f e) rows)) i (record {
      outer = with_stage n new a.0;
      there = Contains-append_left (staged k n new rows) (fresh_row f e ∷ []) (with_stage n new a.0)
          (row_there rows k n new a.0 a.1);
      number = n;
      stage = new;
      is = stage_there n old new a.0.stages (at_has_stage p rows k n x old a a.0 a.1);
      inner = inner;
      has = has;
      path = path ∙ ap (λ (q : Instance). inner_path q inner)
          (path_listed p a.0.fuel a.0.entry.here (whole_block a.0.entry.lines a.0.entry.here) 0 a.0.entry.lines
          a.0.stages a.0.entry.values [] [] n n x old (omega arith) a.2);
    }))
