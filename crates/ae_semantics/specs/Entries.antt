-- What the blocks inside a statement are entered with.
use Rattle.std.specs.Prelude.{ℕ, zero, suc, Bool, true, false, List, [], map}
use Rattle.ae_tree.specs.declared.tree.NameAt.{NameAt}
use Rattle.ae_tree.specs.Plain.{Expression, Invocation, Returned, Lines}
use Rattle.ae_tree.specs.Plain.{Action, Declares, Assigns, Calls, Chooses, ChoosesElse, Repeats, Splits}
use Rattle.ae_semantics.specs.Places.{Outcome, Fine, Lacks, ◌>>=◌, CellName}
use Rattle.ae_semantics.specs.Expressions.{same_truth, truth_of}
use Rattle.ae_semantics.specs.Runs.{Where, deeper, splitting}
use Rattle.ae_semantics.specs.Calls.{CallFrame, enter}
use Rattle.ae_semantics.specs.Blocks.{cell_of, all_go_away}
use Rattle.ae_semantics.specs.Moments.{Moment, then_moment}
use Rattle.ae_tree.specs.Plain.{Code}

-- which block inside a statement: the body of a call, a branch, a turn of a loop, or the block of a split
pub data Inner : Type 0 where
  OfCall : Inner
  OfBranch : ℕ → Inner
  OfTurn : ℕ → Inner
  OfSplit : Inner

-- a block that is entered: where it stands, its statements, the values that it begins with, and the cells of the groups that went away
pub record Entry : Type 0 where
  pub here : Where
  pub lines : Lines
  pub values : Moment
  pub cells : List CellName

-- the body of the method that is called
abbrev pub call_entry : Code → Where → Moment → Invocation → Outcome Entry
call_entry p here m i = enter p here i m.state >>= λ (f : CallFrame).
    Fine (record { here = f.here; lines = f.callee.method.body; values = record m { state = f.state }; cells = [] })

-- the block, where the test holds
abbrev pub entry_if : Bool → Entry → Outcome Entry
entry_if true e = Fine e
entry_if false e = Lacks

-- a branch or a turn with this number, where the condition comes to this
abbrev pub test_entry : Code → Where → Moment → Expression → Bool → ℕ → Lines → Outcome Entry
test_entry p here m e wanted i b = truth_of p m.state e >>= λ test. entry_if (same_truth wanted test)
    (record { here = deeper i here; lines = b; values = m; cells = [] })

-- the block of a split, whose groups are away
abbrev pub split_entry : Where → Moment → List NameAt → Lines → Outcome Entry
split_entry here m gs b = then_moment m (all_go_away here gs) >>= λ k.
    Fine (record {
      here = splitting gs here;
      lines = b;
      values = k;
      cells = map (λ (g : NameAt). cell_of here g.name)
          gs;
    })

-- what a block inside a statement that stands here is entered with, from these values
abbrev pub entry : Code → Where → Moment → Action → Inner → Outcome Entry
entry p here m (Calls i) OfCall = call_entry p here m i
entry p here m (Declares t x (Returned i)) OfCall = call_entry p here m i
entry p here m (Assigns x (Returned i)) OfCall = call_entry p here m i
entry p here m (Chooses e n b) (OfBranch zero) = test_entry p here m e true 0 b
entry p here m (ChoosesElse e n b k c) (OfBranch zero) = test_entry p here m e true 0 b
entry p here m (ChoosesElse e n b k c) (OfBranch (suc zero)) = test_entry p here m e false 1 c
entry p here m (Repeats e n b) (OfTurn t) = test_entry p here m e true t b
entry p here m (Splits gs n b) OfSplit = split_entry here m gs b
entry p here m a inner = Lacks
