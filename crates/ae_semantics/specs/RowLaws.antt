-- What holds of the rows of a run under way.
use Rattle.std.specs.Prelude.{◌≡◌, ℕ, ℤ, List, [], ◌∷◌, Some}
use Rattle.ae_tree.specs.Names.{main}
use Rattle.ae_tree.specs.WellShaped.{WellShaped}
use Rattle.ae_tree.specs.Plain.{Definition, Code}
use Rattle.ae_rules.specs.Lookups.{top_called}
use Rattle.ae_rules.specs.Judges.{Accepts}
use Rattle.ae_semantics.specs.Means.{Start, run_start}
use Rattle.ae_semantics.specs.BlockTrees.{BlockTree, main_entry, fresh}
use Rattle.ae_semantics.specs.Unfolding.{StandsFor}
use Rattle.ae_semantics.specs.Stamps.{AreRowsStamped}
use Rattle.ae_semantics.specs.BlockRows.{BlockRow, fresh_row}
use Rattle.ae_semantics.specs.RowTrees.{tree_of_rows, Reached}

-- the rows before anything ran: the body of `main`, all of whose statements wait
abbrev pub first_rows : ℕ → Start → List BlockRow
first_rows fuel x = fresh_row fuel (main_entry x) ∷ []

-- the tree of the rows stands for the meaning past what stopped
abbrev pub RowsStandFor : Code → List ℤ → ℕ → List BlockRow → Type 0
RowsStandFor p ints fuel rows = (tree : BlockTree) × (tree_of_rows rows ≡ Some tree) × StandsFor p ints fuel tree

-- where a program begins, the first rows are reached
abbrev pub FreshIsReached : Type 0
FreshIsReached = (p : Code) (ints : List ℤ) (fuel : ℕ) (x : Start) → run_start p ints ≡ Some x
    → Reached p ints fuel (first_rows fuel x)

-- in every program with a `main` the first rows are there; their tree is the one before anything ran, and they stand
-- for the meaning
abbrev pub FreshRowsStandFor : Type 0
FreshRowsStandFor = (p : Code) (m : Definition) (ints : List ℤ) (fuel : ℕ) → top_called p main ≡ Some m
    → (x : Start) × (run_start p ints ≡ Some x) × (tree_of_rows (first_rows fuel x) ≡ fresh p ints)
    × RowsStandFor p ints fuel (first_rows fuel x)

-- the first rows are stamped, whatever the clock
abbrev pub FreshRowsAreStamped : Type 0
FreshRowsAreStamped = (p : Code) (clock fuel : ℕ) (x : Start) → AreRowsStamped p clock (first_rows fuel x)

-- A statement for later, which no law carries yet: the rows that are reached in an accepted program stand for the
-- meaning past what stopped. It wants the laws that a statement reads only what it uses and changes only what it writes
-- or uses as a whole.
abbrev pub ReachedStandsFor : Type 0
ReachedStandsFor = (p : Code) (ints : List ℤ) (fuel : ℕ) (rows : List BlockRow) → WellShaped p → Accepts p
    → Reached p ints fuel rows → RowsStandFor p ints fuel rows
