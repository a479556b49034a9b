-- That a stack comes to what it comes to after one step.
use Rattle.std.proofs.Common.{◌≡◌, refl, ◌∙◌, ℕ, zero, suc, nat_lt, Bool, true, false, if◌then◌else◌}
use Rattle.std.proofs.Common.{List, [], ◌∷◌, ◌++◌, Option, None, Some}
use Rattle.std.specs.Prelude.{⊤}
use Rattle.ae_text.specs.declared.refusal.Spot.{Spot}
use Rattle.ae_tree.specs.declared.tree.NameAt.{NameAt}
use Rattle.ae_tree.specs.Form.{form}
use Rattle.ae_tree.specs.Plain.{Expression, Invocation, Value, Taken, Zeros, Made, Returned, Lines, End, Next}
use Rattle.ae_tree.specs.Plain.{Code}
use Rattle.ae_tree.specs.Plain.{Action, Declares, Assigns, Stores, StoresAt, Calls, Chooses, ChoosesElse, Repeats}
use Rattle.ae_tree.specs.Plain.{Groups, Splits, Locks, Freezes, Shares, Prints, PrintsText, Asserts, Returns}
use Rattle.ae_rules.specs.Verdict as rules
use Rattle.ae_rules.specs.Context.{Local}
use Rattle.ae_semantics.specs.Places.{Outcome, Fine, Traps, Lacks, there, CellName, State}
use Rattle.ae_semantics.specs.Expressions.{truth_of}
use Rattle.ae_semantics.specs.Observations.{Ran, Turned, Notes, Observer}
use Rattle.ae_semantics.specs.Runs.{Run, Went, Ends, Stops, Act, and_then, outcome_given, paid, chosen, marked, Where}
use Rattle.ae_semantics.specs.Runs.{deeper, splitting, locking, whole_block, Machine, fuel_of}
use Rattle.ae_semantics.specs.Calls.{CallFrame, enter}
use Rattle.ae_semantics.specs.Blocks.{all_go_away, all_come_back, cell_at, asks}
use Rattle.ae_semantics.specs.Meaning.{body_run, call_run, calls_method, forgotten, left, again, one}
use Rattle.ae_semantics.specs.Meaning.{many, below}
use Rattle.ae_semantics.specs.Means.{stops_at}
use Rattle.ae_semantics.specs.Gathering.{doing}
use Rattle.ae_semantics.specs.Stacks.{ResultPlace, result_goes, ToDo, TheStatement, TheLines, TheTurns, TheNames}
use Rattle.ae_semantics.specs.Stacks.{TheGroups, TheCall, done_now, done_all}
use Rattle.ae_steps.specs.Steps.{Left, GoesOn, Comes, done_by, left_given, block_left, body_left, call_left, turn_left}
use Rattle.ae_steps.specs.Steps.{turns_left, split_left, statement_left, first_left, resumed}

-- one after another, whichever two are taken together
in_a_row : {W : Type 0} (r : Run W) (f g : Act W) → and_then (and_then r f) g ≡ and_then r (λ s n. and_then (f s n) g)
in_a_row (Went s n) f g = refl
in_a_row (Ends ending n) f g = refl
in_a_row (Stops n) f g = refl

-- what is done at once leaves nothing
at_once : {W : Type 0} (m : Machine W) (xs : List ToDo) (r : Run W)
    → and_then r (done_all m xs) ≡ resumed m xs (done_by r)
at_once m xs (Went s n) = refl
at_once m xs (Ends ending n) = refl
at_once m xs (Stops n) = refl

-- the same step for each outcome
for_each_outcome : {A W : Type 0} (m : Machine W) (xs : List ToDo) (o : Outcome A) (at : Spot) (n : Notes W)
    (go : A → Run W) (next : A → Left W) → ((x : A) → and_then (go x) (done_all m xs) ≡ resumed m xs (next x))
    → and_then (outcome_given o at n go) (done_all m xs) ≡ resumed m xs (left_given o at n next)
for_each_outcome m xs (Fine x) at n go next h = h x
for_each_outcome m xs (Traps code) at n go next h = refl
for_each_outcome m xs Lacks at n go next h = refl

-- the same step whichever way a test goes
either_way : {W : Type 0} (m : Machine W) (xs : List ToDo) (b : Bool) (f g : ⊤ → Run W) (x y : Left W)
    → and_then (f tt) (done_all m xs) ≡ resumed m xs x → and_then (g tt) (done_all m xs) ≡ resumed m xs y
    → and_then (chosen b f g) (done_all m xs) ≡ resumed m xs (if b then x else y)
either_way m xs true f g x y h k = h
either_way m xs false f g x y h k = k

-- a block is its statements, and then its names end
block_opens : {W : Type 0} (m : Machine W) (fuel : ℕ) (here : Where) (b : Lines) (xs : List ToDo) (s : State)
    (n : Notes W)
    → and_then (left here.context (many m (below m fuel) here (whole_block b here) 0 b [] s n)) (done_all m xs)
    ≡ done_all m (block_left fuel here b ++ xs) s n
block_opens m fuel here b xs s n = in_a_row (many m (below m fuel) here (whole_block b here) 0 b [] s n)
    (λ t k. Went (forgotten here.context t) k) (done_all m xs)

-- a block, and what else is done before all that follows
block_and_then : {W : Type 0} (m : Machine W) (fuel : ℕ) (here : Where) (b : Lines) (x : ToDo) (xs : List ToDo)
    (s : State) (n : Notes W)
    → and_then
    (and_then (left here.context (many m (below m fuel) here (whole_block b here) 0 b [] s n)) (done_now m x))
    (done_all m xs)
    ≡ done_all m ((block_left fuel here b ++ (x ∷ [])) ++ xs) s n
block_and_then m fuel here b x xs s n =
    in_a_row (left here.context (many m (below m fuel) here (whole_block b here) 0 b [] s n)) (done_now m x)
    (done_all m xs)
    ∙ block_opens m fuel here b (x ∷ xs) s n

-- ---- calls

body_opens : {W : Type 0} (m : Machine W) (fuel : ℕ) (at : Spot) (i : Invocation) (f : CallFrame)
    (place : Option ResultPlace) (xs : List ToDo) (s : State) (n : Notes W)
    → and_then (paid (below m fuel) at n (body_run at i f s n (result_goes at place))) (done_all m xs)
    ≡ resumed m xs (body_left fuel at i f place s n)
unfolding below
body_opens m zero at i f place xs s n = refl
body_opens m (suc fuel) at i f place xs s n =
    (block_and_then) m fuel f.here f.callee.method.body (TheCall at i f s place) xs f.state n

call_opens : {W : Type 0} (m : Machine W) (fuel : ℕ) (here : Where) (at : Spot) (i : Invocation)
    (place : Option ResultPlace) (xs : List ToDo) (s : State) (n : Notes W)
    → and_then (calls_method m (below m fuel) here at i s n (result_goes at place)) (done_all m xs)
    ≡ resumed m xs (call_left m fuel here at i place s n)
call_opens m fuel here at i place xs s n =
    for_each_outcome m xs (enter m.code here i s) at n (call_run (below m fuel) here at i s n (result_goes at place))
    (λ (f : CallFrame). if nat_lt here.depth 1000 then body_left fuel at i f place s n else Comes (Ends _ n))
    (λ f. either_way m xs (nat_lt here.depth 1000) _ _ (body_left fuel at i f place s n) (Comes (Ends _ n))
    (body_opens m fuel at i f place xs s n) refl)

-- ---- loops

turn_opens : {W : Type 0} (m : Machine W) (fuel : ℕ) (here : Where) (t : ℕ) (at : Spot) (e : Expression) (b : Lines)
    (xs : List ToDo) (s : State) (n : Notes W)
    → and_then (paid (below m fuel) at n
    (λ run. and_then (run.block (deeper t here) b s n) (run.again here (suc t) at e b))) (done_all m xs)
    ≡ resumed m xs (turn_left fuel here t at e b s n)
unfolding below
turn_opens m zero here t at e b xs s n = refl
turn_opens m (suc fuel) here t at e b xs s n =
    (block_and_then) m fuel (deeper t here) b (TheTurns fuel here (suc t) at e b) xs s n

turns_open : {W : Type 0} (m : Machine W) (fuel : ℕ) (here : Where) (t : ℕ) (at : Spot) (e : Expression) (b : Lines)
    (xs : List ToDo) (s : State) (n : Notes W)
    → and_then (again m (below m fuel) here t at e b s n) (done_all m xs)
    ≡ resumed m xs (turns_left m fuel here t at e b s (marked (Turned here.path t) n))
turns_open m fuel here t at e b xs s n =
    let turned : Notes _ = marked (Turned here.path t) n in
    for_each_outcome m xs (truth_of m.code s e) at turned _
    (λ (test : Bool). if test then turn_left fuel here t at e b s turned else GoesOn [] s turned)
    (λ test. either_way m xs test _ _ (turn_left fuel here t at e b s turned) (GoesOn [] s turned)
    (turn_opens m fuel here t at e b xs s turned) refl)

-- ---- blocks of groups

split_goes : {W : Type 0} (m : Machine W) (fuel : ℕ) (here : Where) (gs : List NameAt) (b : Lines) (xs : List ToDo)
    (s : State) (n : Notes W) (r : Run W)
    → and_then (and_then r (λ t k. and_then
    (left (splitting gs here).context (many m (below m fuel) (splitting gs here) (whole_block b (splitting gs here)) 0 b [] t k))
    (all_come_back m here gs s n.log))) (done_all m xs)
    ≡ resumed m xs (split_left fuel here gs b s n r)
split_goes m fuel here gs b xs s n (Went t k) =
    (block_and_then) m fuel (splitting gs here) b (TheGroups here gs s n.log) xs t k
split_goes m fuel here gs b xs s n (Ends ending k) = refl
split_goes m fuel here gs b xs s n (Stops k) = refl

lock_goes : {W : Type 0} (m : Machine W) (fuel : ℕ) (here : Where) (at : Spot) (g : NameAt) (number : ℕ) (b : Lines)
    (xs : List ToDo) (s : State) (n : Notes W) (o : Option CellName)
    → and_then (rules.given o
    (left (locking g here).context (many m (below m fuel) (locking g here) (whole_block b (locking g here)) 0 b [] s n))
    (λ cell. asks m here at cell g number b (fuel_of (below m fuel)) s n)) (done_all m xs)
    ≡ resumed m xs (rules.given o (GoesOn (block_left fuel (locking g here) b) s n)
    (λ (cell : CellName). done_by (asks m here at cell g number b (fuel_of (below m fuel)) s n)))
lock_goes m fuel here at g number b xs s n None = block_opens m fuel (locking g here) b xs s n
lock_goes m fuel here at g number b xs s n (Some cell) =
    at_once m xs (asks m here at cell g number b (fuel_of (below m fuel)) s n)

-- ---- statements

statement_opens : {W : Type 0} (m : Machine W) (fuel : ℕ) (here : Where) (at : Spot) (a : Action) (xs : List ToDo)
    (s : State) (n : Notes W)
    → and_then (doing m fuel here at a s n) (done_all m xs) ≡ resumed m xs (statement_left m fuel here at a s n)
unfolding one
statement_opens m fuel here at (Declares t x (Returned i)) xs s n =
    call_opens m fuel here at i (Some (record { name = x.name; form = form t })) xs s n
statement_opens m fuel here at (Declares t x (Value e)) xs s n = at_once m xs _
statement_opens m fuel here at (Declares t x (Taken path spot)) xs s n = at_once m xs _
statement_opens m fuel here at (Declares t x (Zeros e spot)) xs s n = at_once m xs _
statement_opens m fuel here at (Declares t x (Made c gs args spot)) xs s n = at_once m xs _
statement_opens m fuel here at (Assigns x (Returned i)) xs s n =
    for_each_outcome m xs (there (here.context.local x.name)) at n _
    (λ (l : Local). call_left m fuel here at i (Some (record { name = x.name; form = l.form })) s n)
    (λ l. call_opens m fuel here at i (Some (record { name = x.name; form = l.form })) xs s n)
statement_opens m fuel here at (Assigns x (Value e)) xs s n = at_once m xs _
statement_opens m fuel here at (Assigns x (Taken path spot)) xs s n = at_once m xs _
statement_opens m fuel here at (Assigns x (Zeros e spot)) xs s n = at_once m xs _
statement_opens m fuel here at (Assigns x (Made c gs args spot)) xs s n = at_once m xs _
statement_opens m fuel here at (Stores path e) xs s n = at_once m xs _
statement_opens m fuel here at (StoresAt path i e) xs s n = at_once m xs _
statement_opens m fuel here at (Calls i) xs s n = call_opens m fuel here at i None xs s n
statement_opens m fuel here at (Chooses e nb b) xs s n = for_each_outcome m xs (truth_of m.code s e) at n _
    (λ (test : Bool). if test then GoesOn (block_left fuel (deeper 0 here) b) s n else GoesOn [] s n)
    (λ test. either_way m xs test _ _ (GoesOn (block_left fuel (deeper 0 here) b) s n) (GoesOn [] s n)
    (block_opens m fuel (deeper 0 here) b xs s n) refl)
statement_opens m fuel here at (ChoosesElse e nb b nc c) xs s n = for_each_outcome m xs (truth_of m.code s e) at n _
    (λ (test : Bool). if test then GoesOn (block_left fuel (deeper 0 here) b) s n else GoesOn
    (block_left fuel (deeper 1 here) c) s n)
    (λ test. either_way m xs test _ _ (GoesOn (block_left fuel (deeper 0 here) b) s n)
    (GoesOn (block_left fuel (deeper 1 here) c) s n)
    (block_opens m fuel (deeper 0 here) b xs s n) (block_opens m fuel (deeper 1 here) c xs s n))
statement_opens m fuel here at (Repeats e nb b) xs s n = refl
statement_opens m fuel here at (Groups g) xs s n = refl
statement_opens m fuel here at (Splits gs nb b) xs s n = either_way m xs here.inside _ _
    (GoesOn (block_left fuel (splitting gs here) b) s n) (split_left fuel here gs b s n (all_go_away here gs s n))
    (block_opens m fuel (splitting gs here) b xs s n)
    (split_goes m fuel here gs b xs s n (all_go_away here gs s n))
statement_opens m fuel here at (Locks g number b) xs s n =
    lock_goes m fuel here at g number b xs s n (cell_at g.name s n)
statement_opens m fuel here at (Freezes x) xs s n = at_once m xs _
statement_opens m fuel here at (Shares x g) xs s n = at_once m xs _
statement_opens m fuel here at (Prints e) xs s n = at_once m xs _
statement_opens m fuel here at (PrintsText text) xs s n = refl
statement_opens m fuel here at (Asserts e) xs s n = at_once m xs _
statement_opens m fuel here at (Returns e) xs s n = at_once m xs _

-- ---- stacks

-- in source order the first thing of a stack is done by one step and what it leaves
pub first_is_done : {W : Type 0} (p : Code) (o : Observer W) (x : ToDo) (xs : List ToDo) (s : State) (n : Notes W)
    → done_all (stops_at p o) (x ∷ xs) s n ≡ resumed (stops_at p o) xs (first_left (stops_at p o) x s n)
unfolding many
first_is_done p o (TheStatement fuel here at a) xs s n = statement_opens (stops_at p o) fuel here at a xs s n
first_is_done p o (TheLines fuel here all j End) xs s n = refl
first_is_done p o (TheLines fuel here all j (Next at a rest)) xs s n =
    in_a_row (doing (stops_at p o) fuel (deeper j here) at a s (marked (Ran (deeper j here).path at) n)) _
    (done_all (stops_at p o) xs)
first_is_done p o (TheTurns fuel here t at e b) xs s n = turns_open (stops_at p o) fuel here t at e b xs s n
first_is_done p o (TheNames c) xs s n = refl
first_is_done p o (TheGroups here gs before log) xs s n = at_once (stops_at p o) xs _
first_is_done p o (TheCall at i f before place) xs s n = at_once (stops_at p o) xs _
