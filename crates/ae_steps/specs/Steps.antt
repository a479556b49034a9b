-- One step of what is to be done: what is left of the first thing of a stack, and the state after it.
use Rattle.std.specs.Prelude.{◌≡◌, ℕ, zero, suc, nat_lt, Bool, if◌then◌else◌, List, [], ◌∷◌, ◌++◌}
use Rattle.std.specs.Prelude.{Option, None, Some, ⊤}
use Rattle.ae_text.specs.declared.refusal.Spot.{Spot}
use Rattle.ae_tree.specs.declared.tree.NameAt.{NameAt}
use Rattle.ae_tree.specs.Form.{form}
use Rattle.ae_tree.specs.Plain.{Expression, Invocation, Returned, Lines, End, Next, Code}
use Rattle.ae_tree.specs.Plain.{Action, Declares, Assigns, Calls, Chooses, ChoosesElse, Repeats, Splits, Locks}
use Rattle.ae_rules.specs.Verdict as rules
use Rattle.ae_rules.specs.Context.{Local}
use Rattle.ae_semantics.specs.Places.{Outcome, Fine, Traps, Lacks, there, CellName, State}
use Rattle.ae_semantics.specs.Expressions.{truth_of}
use Rattle.ae_semantics.specs.Contexts.{after}
use Rattle.ae_semantics.specs.declared.report.Ending.TheVariants.{Trap, Fuel}
use Rattle.ae_semantics.specs.Observations.{Ran, Turned, Seen, Notes, Observer}
use Rattle.ae_semantics.specs.Runs.{Run, Went, Ends, Stops, outcome_given, marked, Where, deeper, knowing, splitting}
use Rattle.ae_semantics.specs.Runs.{locking, whole_block, Machine, fuel_of}
use Rattle.ae_semantics.specs.Calls.{CallFrame, enter, leave}
use Rattle.ae_semantics.specs.Blocks.{all_go_away, all_come_back, cell_at, asks}
use Rattle.ae_semantics.specs.Meaning.{forgotten, below}
use Rattle.ae_semantics.specs.Means.{stops_at}
use Rattle.ae_semantics.specs.Gathering.{doing}
use Rattle.ae_semantics.specs.Stacks.{ResultPlace, result_goes, ToDo, TheStatement, TheLines, TheTurns, TheNames}
use Rattle.ae_semantics.specs.Stacks.{TheGroups, TheCall, done_all}

-- what is left to do before all that follows, with the state and the notes; or all comes to this run
pub data Left (W : Type 0) : Type 0 where
  GoesOn : List ToDo → State → Notes W → Left W
  Comes : Run W → Left W

-- what was done comes to this run, and nothing is left of it
abbrev pub done_by : {W : Type 0} → Run W → Left W
done_by (Went s n) = GoesOn [] s n
done_by (Ends ending n) = Comes (Ends ending n)
done_by (Stops n) = Comes (Stops n)

-- with the outcome of an expression, or else its trap
abbrev pub left_given : {A W : Type 0} → Outcome A → Spot → Notes W → (A → Left W) → Left W
left_given (Fine x) at n go = go x
left_given (Traps code) at n go = Comes (Ends (Trap code at) n)
left_given Lacks at n go = Comes (Stops n)

-- a block that begins here: its statements, and then its names end
abbrev pub block_left : ℕ → Where → Lines → List ToDo
block_left fuel here b = TheLines fuel here (whole_block b here) 0 b ∷ TheNames here.context ∷ []

-- ---- calls

-- a body takes one of the fuel
abbrev pub body_left : {W : Type 0} → ℕ → Spot → Invocation → CallFrame → Option ResultPlace → State → Notes W → Left W
body_left zero at i f place s n = Comes (Ends (Fuel at) n)
body_left (suc fuel) at i f place s n =
    GoesOn (block_left fuel f.here f.callee.method.body ++ (TheCall at i f s place ∷ [])) f.state n

-- a call: its body, and then it is left
abbrev pub call_left : {W : Type 0} → Machine W → ℕ → Where → Spot → Invocation → Option ResultPlace → State → Notes W
    → Left W
call_left m fuel here at i place s n = left_given (enter m.code here i s) at n
    (λ (f : CallFrame). if nat_lt here.depth 1000 then body_left fuel at i f place s n else Comes (Ends (Trap 6 at) n))

-- ---- loops

-- a turn takes one of the fuel
abbrev pub turn_left : {W : Type 0} → ℕ → Where → ℕ → Spot → Expression → Lines → State → Notes W → Left W
turn_left zero here t at e b s n = Comes (Ends (Fuel at) n)
turn_left (suc fuel) here t at e b s n =
    GoesOn (block_left fuel (deeper t here) b ++ (TheTurns fuel here (suc t) at e b ∷ [])) s n

-- a loop from a turn on
abbrev pub turns_left : {W : Type 0} → Machine W → ℕ → Where → ℕ → Spot → Expression → Lines → State → Notes W → Left W
turns_left m fuel here t at e b s n = left_given (truth_of m.code s e) at n
    (λ (test : Bool). if test then turn_left fuel here t at e b s n else GoesOn [] s n)

-- ---- blocks of groups

-- what follows when the groups of a split block went away
abbrev pub split_left : {W : Type 0} → ℕ → Where → List NameAt → Lines → State → Notes W → Run W → Left W
split_left fuel here gs b s n (Went t k) =
    GoesOn (block_left fuel (splitting gs here) b ++ (TheGroups here gs s n.log ∷ [])) t k
split_left fuel here gs b s n (Ends ending k) = Comes (Ends ending k)
split_left fuel here gs b s n (Stops k) = Comes (Stops k)

-- ---- one step

-- a statement: a block or a call is opened, and anything else is done
abbrev pub statement_left : {W : Type 0} → Machine W → ℕ → Where → Spot → Action → State → Notes W → Left W
statement_left m fuel here at (Calls i) s n = call_left m fuel here at i None s n
statement_left m fuel here at (Declares t x (Returned i)) s n =
    call_left m fuel here at i (Some (record { name = x.name; form = form t })) s n
statement_left m fuel here at (Assigns x (Returned i)) s n = left_given (there (here.context.local x.name)) at n
    (λ (l : Local). call_left m fuel here at i (Some (record { name = x.name; form = l.form })) s n)
statement_left m fuel here at (Chooses e nb b) s n = left_given (truth_of m.code s e) at n
    (λ (test : Bool). if test then GoesOn (block_left fuel (deeper 0 here) b) s n else GoesOn [] s n)
statement_left m fuel here at (ChoosesElse e nb b nc c) s n = left_given (truth_of m.code s e) at n
    (λ (test : Bool). if test then GoesOn (block_left fuel (deeper 0 here) b) s n else GoesOn
    (block_left fuel (deeper 1 here) c) s n)
statement_left m fuel here at (Repeats e nb b) s n = GoesOn (TheTurns fuel here 0 at e b ∷ []) s n
statement_left m fuel here at (Splits gs nb b) s n =
    if here.inside then GoesOn (block_left fuel (splitting gs here) b) s n
    else split_left fuel here gs b s n (all_go_away here gs s n)
statement_left m fuel here at (Locks g number b) s n =
    rules.given (cell_at g.name s n) (GoesOn (block_left fuel (locking g here) b) s n)
    (λ (cell : CellName). done_by (asks m here at cell g number b (fuel_of (below m fuel)) s n))
statement_left m fuel here at a s n = done_by (doing m fuel here at a s n)

-- the first thing of a stack
abbrev pub first_left : {W : Type 0} → Machine W → ToDo → State → Notes W → Left W
first_left m (TheStatement fuel here at a) s n = statement_left m fuel here at a s n
first_left m (TheLines fuel here all j End) s n = GoesOn [] s n
first_left m (TheLines fuel here all j (Next at a rest)) s n =
    GoesOn (TheStatement fuel (deeper j here) at a
    ∷ TheLines fuel (knowing (after m.code here.method at a here.context) here) all (suc j) rest ∷ []) s
    (marked (Ran (deeper j here).path at) n)
first_left m (TheTurns fuel here t at e b) s n = turns_left m fuel here t at e b s (marked (Turned here.path t) n)
first_left m (TheNames c) s n = GoesOn [] (forgotten c s) n
first_left m (TheGroups here gs before log) s n = done_by (all_come_back m here gs before log s n)
first_left m (TheCall at i f before place) s n = done_by (outcome_given (leave f i before s) at n
    (λ t. result_goes at place s.result t n))

-- what all comes to, with what is left of its first thing
abbrev pub resumed : {W : Type 0} → Machine W → List ToDo → Left W → Run W
resumed m xs (GoesOn ys s n) = done_all m (ys ++ xs) s n
resumed m xs (Comes r) = r

-- In source order a stack comes to what it comes to after one step.
abbrev pub StacksAreDoneBy : Type 0 → Type 0
StacksAreDoneBy W = (p : Code) (o : Observer W) (x : ToDo) (xs : List ToDo) (s : State) (n : Notes W)
    → done_all (stops_at p o) (x ∷ xs) s n ≡ resumed (stops_at p o) xs (first_left (stops_at p o) x s n)

-- so it is with notes of nothing more, and with those that list what was answered
abbrev pub StacksAreDoneByBoth : Type 0
StacksAreDoneByBoth = StacksAreDoneBy ⊤ × StacksAreDoneBy (List Seen)
