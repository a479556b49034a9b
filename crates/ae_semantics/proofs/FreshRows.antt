-- The rows before anything ran: they are reached, and stand for the meaning past what stopped.
use Rattle.std.proofs.Common.{◌≡◌, ℕ, zero, suc, ℤ, List, [], ◌∷◌, length, Option, None, Some, Contains, inl, refl}
use Rattle.std.proofs.Common.{ap, sym, subst, ◌∙◌, arith, append-nil}
use Rattle.std.specs.Prelude.{option_map, ◌++◌, if◌then◌else◌}
use Rattle.std.specs.List.{flat_map}
use Rattle.std.proofs.lemmas.Option.{same_Some}
use Rattle.ae_tree.specs.Limits.{statement_count}
use Rattle.ae_tree.specs.Names.{main}
use Rattle.ae_tree.specs.Plain.{Lines, End, Next, Definition, Code}
use Rattle.ae_rules.specs.Lookups.{method_at, top_number}
use Rattle.ae_rules.specs.Verdict.{given}
use Rattle.ae_rules.specs.Blocks.{Scene}
use Rattle.ae_rules.specs.Instances.{Instance}
use Rattle.ae_semantics.specs.Contexts.{after}
use Rattle.ae_semantics.specs.Observations.{Seen, Query}
use Rattle.ae_semantics.specs.Runs.{Where, knowing, whole_block}
use Rattle.ae_semantics.specs.Means.{Start, run_start, start_at, main_here, main_state}
use Rattle.ae_semantics.specs.Regions.{same_instance}
use Rattle.ae_semantics.specs.Moments.{Moment}
use Rattle.ae_semantics.specs.BlockTrees.{BlockTree, Begun, Stages, Then, all_wait, main_entry, fresh}
use Rattle.ae_semantics.specs.BlockTrees as tree
use Rattle.ae_semantics.specs.Unfolding.{StandsFor}
use Rattle.ae_semantics.specs.Stamps.{AreStamped}
use Rattle.ae_semantics.specs.BlockRows.{BlockRow, RowStage, Waiting, all_waiting, fresh_row, row_at_path}
use Rattle.ae_semantics.specs.BlockRows.{statements_from}
use Rattle.ae_semantics.specs.Reached.{AreRight, IsRowRight}
use Rattle.ae_semantics.specs.RowTrees.{stages_as, block_tree, tree_of_rows, seen_in, gained_in, cells_of_row}
use Rattle.ae_semantics.specs.RowTrees.{row_cells, row_lines, all_stages}
use Rattle.ae_semantics.specs.RowLaws.{first_rows, FreshIsReached, FreshRowsStandFor, FreshRowsAreStamped}
use Rattle.ae_semantics.proofs.Fresh.{start_there, fresh_stands_for, nothing_stamped}

-- ---- a row all of whose statements wait

pub all_counted : (b : Lines) → length (all_waiting b) ≡ statement_count b
all_counted End = refl
all_counted (Next at a rest) =
    let e : length (all_waiting rest) ≡ statement_count rest = all_counted rest in omega arith

-- what waits is right
pub waiting_all_right : (p : Code) (table : Query
    → Option Seen) (rows : List BlockRow) (fuel : ℕ) (here : Where) (all : Scene)
    (j : ℕ) (b : Lines) (found : Moment) (unfinished barred : List ℕ)
    → AreRight p table rows (statements_from p fuel here all j b (all_waiting b) found unfinished barred)
waiting_all_right p table rows fuel here all j End found unfinished barred = tt
waiting_all_right p table rows fuel here all j (Next at a rest) found unfinished barred = (
  tt,
  waiting_all_right p table rows fuel (knowing (after p here.method at a here.context) here) all (suc j) rest found
      (j ∷ unfinished) barred,
)

-- ---- the first rows

-- a program begins at the first path
main_begins_first : (p : Code) (ints : List ℤ) (x : Start) (n : ℕ) (o : Option Definition)
    → given o None (λ (m : Definition).
    Some (record { here = main_here p n m; method = m; state = main_state p m ints })) ≡ Some x
    → x.here.path ≡ []
main_begins_first p ints x n None e = absurd (cc e)
main_begins_first p ints x n (Some m) e = sym (ap (λ (y : Start). y.here.path)
    (same_Some (record { here = main_here p n m; method = m; state = main_state p m ints }) x e))

first_path : (p : Code) (ints : List ℤ) (x : Start) (o : Option ℕ) → given o None (start_at p ints) ≡ Some x
    → x.here.path ≡ []
first_path p ints x None e = absurd (cc e)
first_path p ints x (Some n) e = main_begins_first p ints x n (method_at p n) e

-- the row of the first path
first_there : (fuel : ℕ) (x : Start) → x.here.path ≡ []
    → row_at_path (first_rows fuel x) [] ≡ Some (fresh_row fuel (main_entry x))
first_there fuel x e =
    ap (λ (q : Instance). if same_instance q [] then Some (fresh_row fuel (main_entry x)) else None) e

-- the one row there is
only_first : (fuel : ℕ) (x : Start) (r : BlockRow) → Contains (first_rows fuel x) r → fresh_row fuel (main_entry x) ≡ r
only_first fuel x r (zero, l, e) = e
only_first fuel x r (suc k, l, e) = absurd (omega (arith, l))

none_after : (r : BlockRow) → Contains {X = BlockRow} [] r → ⊥
none_after r (k, l, e) = omega (arith, l)

pub fresh_is_reached : FreshIsReached
fresh_is_reached p ints fuel x e =
    let start : x.here.path ≡ [] = first_path p ints x (top_number p main) e in
    let rows : List BlockRow = first_rows fuel x in
    record {
      begins = x;
      start = e;
      body = fresh_row fuel (main_entry x);
      first = first_there fuel x start;
      entered = (refl, refl);
      each = λ r c. subst (IsRowRight p (seen_in rows) rows) (only_first fuel x r c) (record {
        counted = all_counted x.method.body;
        each = waiting_all_right p (seen_in rows) rows fuel x.here (whole_block x.method.body x.here) 0 x.method.body
            (main_entry x).values [] [];
      });
      differ = (λ r c. absurd (none_after r c), tt);
      inside = λ r c. inl (subst (λ (y : BlockRow). y.entry.here.path ≡ []) (only_first fuel x r c) start);
    }

-- ---- their tree

waiting_stages : (blocks : Instance → Option BlockTree) (q : Instance) (j : ℕ) (b : Lines)
    → stages_as blocks q j (all_waiting b) ≡ all_wait b
waiting_stages blocks q j End = refl
waiting_stages blocks q j (Next at a rest) = ap (Then tree.Waiting) (waiting_stages blocks q (suc j) rest)

-- it is the tree before anything ran
tree_is_fresh : (p : Code) (ints : List ℤ) (fuel : ℕ) (x : Start) → run_start p ints ≡ Some x
    → tree_of_rows (first_rows fuel x) ≡ fresh p ints
tree_is_fresh p ints fuel x e =
    ap (option_map
    (λ (r : BlockRow). Begun r.entry.values (stages_as (block_tree (first_rows fuel x) 0) [] 0 r.stages)))
    (first_there fuel x (first_path p ints x (top_number p main) e))
    ∙ ap (λ (xs : Stages). Some (Begun (main_entry x).values xs))
    (waiting_stages (block_tree (first_rows fuel x) 0) [] 0 x.method.body)
    ∙ sym (ap (λ (o : Option Start). given o None
    (λ (y : Start). Some (Begun (main_entry y).values (all_wait y.method.body)))) e)

pub fresh_rows_stand_for : FreshRowsStandFor
fresh_rows_stand_for p m ints fuel e =
    let x : (x : Start) × (run_start p ints ≡ Some x) = start_there p m ints e in
    let t : (tree : BlockTree) × (fresh p ints ≡ Some tree) × StandsFor p ints fuel tree =
    fresh_stands_for p m ints fuel e in
    let f : tree_of_rows (first_rows fuel x.0) ≡ fresh p ints = tree_is_fresh p ints fuel x.0 x.1 in
    (x.0, x.1, f, (t.0, f ∙ t.1, t.2))

-- ---- their stamps

pub waiting_give_none : {A : Type 0} (give : RowStage → List A) → give Waiting ≡ [] → (b : Lines)
    → flat_map give (all_waiting b) ≡ []
waiting_give_none give w End = refl
waiting_give_none give w (Next at a rest) = ap (λ xs. xs ++ flat_map give (all_waiting rest)) w
    ∙ waiting_give_none give w rest

-- nothing is gained in the first rows
first_give_none : {A : Type 0} (give : RowStage → List A) → give Waiting ≡ [] → (fuel : ℕ) (x : Start)
    → flat_map give (all_stages (first_rows fuel x)) ≡ []
first_give_none give w fuel x = ap (flat_map give) (append-nil (all_waiting x.method.body))
    ∙ waiting_give_none give w x.method.body

pub fresh_rows_are_stamped : FreshRowsAreStamped
fresh_rows_are_stamped p clock fuel x =
    let rows : List BlockRow = first_rows fuel x in
    subst (λ es. AreStamped p clock es (row_cells rows) (row_lines rows))
    (sym (first_give_none (λ (y : RowStage). (gained_in y).events) refl fuel x))
    (subst (λ cs. AreStamped p clock [] cs (row_lines rows))
    (sym (first_give_none (λ (y : RowStage). cells_of_row y ++ (gained_in y).cells) refl fuel x))
    (subst (AreStamped p clock [] []) (sym (first_give_none (λ (y : RowStage). (gained_in y).trace) refl fuel x))
    (nothing_stamped p clock)))
