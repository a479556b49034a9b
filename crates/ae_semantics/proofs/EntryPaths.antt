-- Where a block stands that a statement enters, and with which values a turn begins.
use Rattle.std.proofs.Common.{◌≡◌, refl, ap, sym, ◌∙◌, ℕ, zero, suc, Bool, true, false, List, [], ◌∷◌, ◌++◌}
use Rattle.ae_tree.specs.declared.tree.NameAt.{NameAt}
use Rattle.ae_tree.specs.Plain.{Expression, Invocation, Value, Taken, Zeros, Made, Returned, Lines, Code}
use Rattle.ae_tree.specs.Plain.{Action, Declares, Assigns, Stores, StoresAt, Calls, Chooses, ChoosesElse, Repeats}
use Rattle.ae_tree.specs.Plain.{Groups, Splits, Locks, Freezes, Shares, Prints, PrintsText, Asserts, Returns}
use Rattle.ae_semantics.specs.Places.{Outcome, Fine, Traps, Lacks, ◌>>=◌}
use Rattle.ae_semantics.specs.Expressions.{same_truth, truth_of}
use Rattle.ae_semantics.specs.Runs.{Where, deeper, splitting}
use Rattle.ae_semantics.specs.Calls.{CallFrame, called_method, enter}
use Rattle.ae_semantics.specs.Blocks.{cell_of, all_go_away}
use Rattle.ae_semantics.specs.Moments.{Moment, then_moment}
use Rattle.ae_semantics.specs.Entries.{Inner, OfCall, OfBranch, OfTurn, OfSplit, Entry, call_entry, entry_if}
use Rattle.ae_semantics.specs.Entries.{test_entry}
use Rattle.ae_semantics.specs.Entries.{split_entry, entry}
use Rattle.ae_semantics.specs.BlockRows.{inner_path}
use Rattle.ae_semantics.proofs.Alongside.{fine_same, entered_at}
use Rattle.std.specs.Prelude.{map}

call_stands_there : (p : Code) (here : Where) (m : Moment) (i : Invocation) (e : Entry) → call_entry p here m i ≡ Fine e
    → e.here.path ≡ here.path
call_stands_there p here m i e h = by_frame (enter p here i m.state) refl h
  where
    made : CallFrame → Entry
    made f = record { here = f.here; lines = f.callee.method.body; values = record m { state = f.state }; cells = [] }

    by_frame : (o : Outcome CallFrame) → enter p here i m.state ≡ o → (o >>= λ (f : CallFrame). Fine (made f)) ≡ Fine e
        → e.here.path ≡ here.path
    by_frame (Fine f) k h = ap (λ (y : Entry). y.here.path) (sym (fine_same (made f) e h))
        ∙ entered_at p here m.state i (called_method p m.state i) f k
    by_frame (Traps code) k h = absurd (cc h)
    by_frame Lacks k h = absurd (cc h)

-- what is entered after a test is what the test lets in
entered_if : (o : Outcome Bool) (wanted : Bool) (x e : Entry)
    → (o >>= λ test. entry_if (same_truth wanted test) x) ≡ Fine e
    → x ≡ e
entered_if (Fine test) wanted x e h = by_test (same_truth wanted test) h
  where
    by_test : (b : Bool) → entry_if b x ≡ Fine e → x ≡ e
    by_test true h = fine_same x e h
    by_test false h = absurd (cc h)
entered_if (Traps code) wanted x e h = absurd (cc h)
entered_if Lacks wanted x e h = absurd (cc h)

test_path : (p : Code) (here : Where) (m : Moment) (c : Expression) (wanted : Bool) (i : ℕ) (b : Lines) (e : Entry)
    → test_entry p here m c wanted i b ≡ Fine e → e.here.path ≡ here.path ++ (i ∷ [])
test_path p here m c wanted i b e h = sym (ap (λ (y : Entry). y.here.path)
    (entered_if (truth_of p m.state c) wanted
    (record { here = deeper i here; lines = b; values = m; cells = [] }) e h))

split_path : (here : Where) (m : Moment) (gs : List NameAt) (b : Lines) (e : Entry) → split_entry here m gs b ≡ Fine e
    → e.here.path ≡ here.path
split_path here m gs b e h = by_moment (then_moment m (all_go_away here gs)) h
  where
    made : Moment → Entry
    made k = record {
      here = splitting gs here;
      lines = b;
      values = k;
      cells = map (λ (g : NameAt). cell_of here g.name) gs;
    }

    by_moment : (o : Outcome Moment) → (o >>= λ (k : Moment). Fine (made k)) ≡ Fine e → e.here.path ≡ here.path
    by_moment (Fine k) h = ap (λ (y : Entry). y.here.path) (sym (fine_same (made k) e h))
    by_moment (Traps code) h = absurd (cc h)
    by_moment Lacks h = absurd (cc h)

-- a block stands where its statement does, a branch and a turn under their number
pub entry_path : (p : Code) (here : Where) (m : Moment) (a : Action) (inner : Inner) (e : Entry)
    → entry p here m a inner ≡ Fine e → e.here.path ≡ inner_path here.path inner
entry_path p here m (Calls i) OfCall e h = call_stands_there p here m i e h
entry_path p here m (Calls i) (OfBranch n) e h = absurd (cc h)
entry_path p here m (Calls i) (OfTurn t) e h = absurd (cc h)
entry_path p here m (Calls i) OfSplit e h = absurd (cc h)
entry_path p here m (Declares t x (Returned i)) OfCall e h = call_stands_there p here m i e h
entry_path p here m (Declares t x (Returned i)) (OfBranch n) e h = absurd (cc h)
entry_path p here m (Declares t x (Returned i)) (OfTurn k) e h = absurd (cc h)
entry_path p here m (Declares t x (Returned i)) OfSplit e h = absurd (cc h)
entry_path p here m (Declares t x (Value c)) inner e h = absurd (cc h)
entry_path p here m (Declares t x (Taken path at)) inner e h = absurd (cc h)
entry_path p here m (Declares t x (Zeros c at)) inner e h = absurd (cc h)
entry_path p here m (Declares t x (Made c gs args at)) inner e h = absurd (cc h)
entry_path p here m (Assigns x (Returned i)) OfCall e h = call_stands_there p here m i e h
entry_path p here m (Assigns x (Returned i)) (OfBranch n) e h = absurd (cc h)
entry_path p here m (Assigns x (Returned i)) (OfTurn k) e h = absurd (cc h)
entry_path p here m (Assigns x (Returned i)) OfSplit e h = absurd (cc h)
entry_path p here m (Assigns x (Value c)) inner e h = absurd (cc h)
entry_path p here m (Assigns x (Taken path at)) inner e h = absurd (cc h)
entry_path p here m (Assigns x (Zeros c at)) inner e h = absurd (cc h)
entry_path p here m (Assigns x (Made c gs args at)) inner e h = absurd (cc h)
entry_path p here m (Chooses c n b) (OfBranch zero) e h = test_path p here m c true 0 b e h
entry_path p here m (Chooses c n b) (OfBranch (suc k)) e h = absurd (cc h)
entry_path p here m (Chooses c n b) OfCall e h = absurd (cc h)
entry_path p here m (Chooses c n b) (OfTurn t) e h = absurd (cc h)
entry_path p here m (Chooses c n b) OfSplit e h = absurd (cc h)
entry_path p here m (ChoosesElse c n b k d) (OfBranch zero) e h = test_path p here m c true 0 b e h
entry_path p here m (ChoosesElse c n b k d) (OfBranch (suc zero)) e h = test_path p here m c false 1 d e h
entry_path p here m (ChoosesElse c n b k d) (OfBranch (suc (suc i))) e h = absurd (cc h)
entry_path p here m (ChoosesElse c n b k d) OfCall e h = absurd (cc h)
entry_path p here m (ChoosesElse c n b k d) (OfTurn t) e h = absurd (cc h)
entry_path p here m (ChoosesElse c n b k d) OfSplit e h = absurd (cc h)
entry_path p here m (Repeats c n b) (OfTurn t) e h = test_path p here m c true t b e h
entry_path p here m (Repeats c n b) OfCall e h = absurd (cc h)
entry_path p here m (Repeats c n b) (OfBranch i) e h = absurd (cc h)
entry_path p here m (Repeats c n b) OfSplit e h = absurd (cc h)
entry_path p here m (Splits gs n b) OfSplit e h = split_path here m gs b e h
entry_path p here m (Splits gs n b) OfCall e h = absurd (cc h)
entry_path p here m (Splits gs n b) (OfBranch i) e h = absurd (cc h)
entry_path p here m (Splits gs n b) (OfTurn t) e h = absurd (cc h)
entry_path p here m (Stores path c) inner e h = absurd (cc h)
entry_path p here m (StoresAt path i c) inner e h = absurd (cc h)
entry_path p here m (Groups g) inner e h = absurd (cc h)
entry_path p here m (Locks g n b) inner e h = absurd (cc h)
entry_path p here m (Freezes x) inner e h = absurd (cc h)
entry_path p here m (Shares x g) inner e h = absurd (cc h)
entry_path p here m (Prints c) inner e h = absurd (cc h)
entry_path p here m (PrintsText s) inner e h = absurd (cc h)
entry_path p here m (Asserts c) inner e h = absurd (cc h)
entry_path p here m (Returns c) inner e h = absurd (cc h)

-- a turn begins with what there is before it
pub turn_values : (p : Code) (here : Where) (m : Moment) (c : Expression) (n : ℕ) (b : Lines) (t : ℕ) (e : Entry)
    → entry p here m (Repeats c n b) (OfTurn t) ≡ Fine e → m ≡ e.values
turn_values p here m c n b t e h = ap (λ (y : Entry). y.values)
    (entered_if (truth_of p m.state c) true (record { here = deeper t here; lines = b; values = m; cells = [] }) e h)
