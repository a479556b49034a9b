-- That what is left after a step is less than what was to be done.
use Rattle.std.proofs.Common.{◌≡◌, ◌<◌, ◌≤◌, refl, ap, subst, arith, ℕ, zero, suc, ◌+◌, nat_lt, Bool}
use Rattle.std.proofs.Common.{true, false, if◌then◌else◌, List, [], ◌∷◌, Option, None, Some}
use Rattle.std.specs.Prelude.{slice_get}
use Rattle.std.proofs.lemmas.Option.{same_Some}
use Rattle.ae_text.specs.declared.refusal.Spot.{Spot}
use Rattle.ae_tree.specs.declared.tree.NameAt.{NameAt}
use Rattle.ae_tree.specs.declared.tree.Class.{Class}
use Rattle.ae_tree.specs.declared.tree.Path.{Path}
use Rattle.ae_tree.specs.declared.form.Kind.{Kind}
use Rattle.ae_tree.specs.declared.form.Form.{Form}
use Rattle.ae_tree.specs.declared.form.Form.TheVariants as f
use Rattle.ae_tree.specs.Plain.{Expression, Invocation, Value, Taken, Zeros, Made, Returned, Lines, End, Next}
use Rattle.ae_tree.specs.Plain.{Definition, Code}
use Rattle.ae_tree.specs.Plain.{Action, Declares, Assigns, Stores, StoresAt, Calls, Chooses, ChoosesElse, Repeats}
use Rattle.ae_tree.specs.Plain.{Groups, Splits, Locks, Freezes, Shares, Prints, PrintsText, Asserts, Returns}
use Rattle.ae_rules.specs.Verdict as rules
use Rattle.ae_rules.specs.Lookups.{method_at, class_of, groups_of, method_number, top_number}
use Rattle.ae_rules.specs.Calls.{Callee, callee_at, callee_of, callee_in, givens, top_callee}
use Rattle.ae_tree.specs.Form.{bare_names}
use Rattle.ae_semantics.specs.Places.{Outcome, Fine, Traps, Lacks, ◌>>=◌, there, CellName, State, walk_to}
use Rattle.ae_semantics.specs.Expressions.{truth_of}
use Rattle.ae_semantics.specs.Observations.{Notes}
use Rattle.ae_semantics.specs.Runs.{Run, Went, Ends, Stops, Where, deeper, splitting, locking, Machine}
use Rattle.ae_semantics.specs.Calls.{CallFrame, enter, called_method, each_argument, group_given, frame}
use Rattle.ae_semantics.specs.Blocks.{all_go_away, cell_at}
use Rattle.ae_semantics.specs.Gathering.{doing}
use Rattle.ae_semantics.specs.Stacks.{ResultPlace, ToDo, TheStatement, TheLines, TheTurns, TheNames, TheGroups, TheCall}
use Rattle.ae_steps.specs.Steps.{Left, GoesOn, Comes, done_by, left_given, block_left, body_left, call_left, turn_left}
use Rattle.ae_steps.specs.Steps.{split_left, statement_left, first_left}
use Rattle.ae_steps.specs.Costs.{Costs, statement_cost, block_cost, bodies_cost, costs, cost, stack_cost}
use Rattle.ae_steps.proofs.from_rules.PathLemmas.{called_by_number}

-- what is left to do, if there is any, is less than this
abbrev IsBelow : {W : Type 0} → Code → ℕ → Left W → Type 0
IsBelow p c (GoesOn ys s n) = stack_cost p ys < c
IsBelow p c (Comes r) = Unit {0}

nothing_below : {W : Type 0} (p : Code) (c : ℕ) (r : Run W) → IsBelow p (suc c) (done_by r)
nothing_below p c (Went s n) = omega arith
nothing_below p c (Ends ending n) = tt
nothing_below p c (Stops n) = tt

given_below : {A W : Type 0} (p : Code) (c : ℕ) (o : Outcome A) (at : Spot) (n : Notes W) (next : A → Left W)
    → ((x : A) → o ≡ Fine x → IsBelow p c (next x)) → IsBelow p c (left_given o at n next)
given_below p c (Fine x) at n next h = h x refl
given_below p c (Traps code) at n next h = tt
given_below p c Lacks at n next h = tt

either_below : {W : Type 0} (p : Code) (c : ℕ) (b : Bool) (x y : Left W) → IsBelow p c x → IsBelow p c y
    → IsBelow p c (if b then x else y)
either_below p c true x y h k = h
either_below p c false x y h k = k

-- one body costs at most what all do
pub one_body : (c : Costs) (ms : List Definition) (i : ℕ) (m : Definition) → slice_get ms i ≡ Some m
    → block_cost c m.body ≤ bodies_cost c ms
one_body c [] i m e = absurd (cc)
one_body c (y ∷ ys) zero m e =
    subst (λ (z : Definition). block_cost c z.body ≤ bodies_cost c (y ∷ ys)) (same_Some y m e) (omega arith)
one_body c (y ∷ ys) (suc i) m e = omega (arith, one_body c ys i m e)

-- ---- calls

fine_there : (o : Option Callee) (k : Callee) → there o ≡ Fine k → o ≡ Some k
fine_there None k e = absurd (cc)
fine_there (Some c) k e = cc

fine_first : {A B : Type 0} (o : Outcome A) (next : A → Outcome B) (y : B) → o >>= next ≡ Fine y
    → (x : A) × (o ≡ Fine x) × (next x ≡ Fine y)
fine_first (Fine x) next y e = (x, refl, e)
fine_first (Traps code) next y e = absurd (cc)
fine_first Lacks next y e = absurd (cc)

-- the method of a call that is entered
abbrev callee_in_outcome : Callee → Outcome CallFrame → Callee
callee_in_outcome k (Fine f) = f.callee
callee_in_outcome k (Traps code) = k
callee_in_outcome k Lacks = k

-- the method stands in the program
abbrev pub IsOf : Code → Callee → Type 0
IsOf p k = (n : ℕ) × (method_at p n ≡ Some k.method)

by_number : (p : Code) (names groups : List ℕ) (o : Option ℕ) (k : Callee)
    → rules.given o None (callee_at p names groups) ≡ Some k → IsOf p k
by_number p names groups o k e = let r = called_by_number p names groups o k e in (r.0, r.2)

member_is_of : (p : Code) (o : Option Class) (l : Kind) (x : ℕ) (k : Callee)
    → rules.given o None (callee_in p l x) ≡ Some k → IsOf p k
member_is_of p None l x k e = absurd (cc)
member_is_of p (Some c) l x k e = by_number p (bare_names c.groups) (groups_of l) (method_number p c x) k e

callee_is_of : (p : Code) (t : Form) (x : ℕ) (k : Callee) → callee_of p t x ≡ Some k → IsOf p k
callee_is_of p f.Int x k e = absurd (cc)
callee_is_of p f.Bool x k e = absurd (cc)
callee_is_of p (f.Object q l) x k e = member_is_of p (class_of p l) l x k e

on_is_of : (p : Code) (s : State) (on : Option Path) (x : ℕ) (k : Callee)
    → rules.given on (there (top_callee p x)) (λ path. walk_to p s path >>= λ y. there (callee_of p y.form x)) ≡ Fine k
    → IsOf p k
on_is_of p s None x k e = by_number p [] [] (top_number p x) k (fine_there (top_callee p x) k e)
on_is_of p s (Some path) x k e =
    let r = fine_first (walk_to p s path) (λ y. there (callee_of p y.form x)) k e in
    (callee_is_of) p r.0.form x k (fine_there (callee_of p r.0.form x) k r.2)

-- the method of a call that is entered stands in the program
pub entered_is_of : (p : Code) (here : Where) (i : Invocation) (s : State) (f : CallFrame) → enter p here i s ≡ Fine f
    → IsOf p f.callee
entered_is_of p here i s f e =
    let r = fine_first (called_method p s i)
    (λ c. each_argument p s (givens i) >>= λ xs. Fine (frame p here s c (group_given s c i) xs)) f e in
    let l = fine_first (each_argument p s (givens i)) (λ xs. Fine (frame p here s r.0 (group_given s r.0 i) xs)) f r.2 in
    let same : r.0 ≡ f.callee = ap (λ (y : Outcome CallFrame). callee_in_outcome r.0 y) l.2 in
    subst (IsOf p) same (on_is_of p s i.on i.method.name r.0 r.1)

-- ---- what is left

body_below : {W : Type 0} (p : Code) (fuel : ℕ) (at : Spot) (i : Invocation) (f : CallFrame)
    (place : Option ResultPlace) (s : State) (n : Notes W) → IsOf p f.callee
    → IsBelow p (suc (costs p fuel).call) (body_left fuel at i f place s n)
body_below p zero at i f place s n h = tt
body_below p (suc fuel) at i f place s n h =
    omega (arith, one_body (costs p fuel) p.methods h.0 f.callee.method h.1)

call_below : {W : Type 0} (m : Machine W) (fuel : ℕ) (here : Where) (at : Spot) (i : Invocation)
    (place : Option ResultPlace) (s : State) (n : Notes W)
    → IsBelow m.code (suc (costs m.code fuel).call) (call_left m fuel here at i place s n)
call_below m fuel here at i place s n = given_below m.code (suc (costs m.code fuel).call) (enter m.code here i s) at n _
    (λ f e. either_below m.code (suc (costs m.code fuel).call) (nat_lt here.depth 1000) (body_left fuel at i f place s n)
    (Comes (Ends _ n)) (body_below m.code fuel at i f place s n (entered_is_of m.code here i s f e)) tt)

turn_below : {W : Type 0} (p : Code) (fuel : ℕ) (here : Where) (t : ℕ) (at : Spot) (e : Expression) (b : Lines)
    (s : State) (n : Notes W) → IsBelow p ((costs p fuel).turns b) (turn_left fuel here t at e b s n)
turn_below p zero here t at e b s n = tt
turn_below p (suc fuel) here t at e b s n = omega arith

-- a loop costs something
pub none_below : (p : Code) (fuel : ℕ) (b : Lines) → 0 < (costs p fuel).turns b
none_below p zero b = omega arith
none_below p (suc fuel) b = omega arith

split_below : {W : Type 0} (p : Code) (fuel : ℕ) (here : Where) (gs : List NameAt) (b : Lines) (s : State)
    (n : Notes W) (r : Run W) → IsBelow p (suc (suc (block_cost (costs p fuel) b))) (split_left fuel here gs b s n r)
split_below p fuel here gs b s n (Went t k) = omega arith
split_below p fuel here gs b s n (Ends ending k) = tt
split_below p fuel here gs b s n (Stops k) = tt

lock_below : {W : Type 0} (p : Code) (fuel : ℕ) (here : Where) (g : NameAt) (b : Lines) (s : State) (n : Notes W)
    (o : Option CellName) (r : CellName → Run W)
    → IsBelow p (suc (block_cost (costs p fuel) b))
    (rules.given o (GoesOn (block_left fuel (locking g here) b) s n) (λ (cell : CellName). done_by (r cell)))
lock_below p fuel here g b s n None r = omega arith
lock_below p fuel here g b s n (Some cell) r = nothing_below p _ (r cell)

statement_below : {W : Type 0} (m : Machine W) (fuel : ℕ) (here : Where) (at : Spot) (a : Action) (s : State)
    (n : Notes W) → IsBelow m.code (statement_cost (costs m.code fuel) a) (statement_left m fuel here at a s n)
statement_below m fuel here at (Declares t x (Returned i)) s n = call_below m fuel here at i _ s n
statement_below m fuel here at (Declares t x (Value e)) s n = nothing_below m.code 0 (doing m fuel here at (Declares t x (Value e)) s n)
statement_below m fuel here at (Declares t x (Taken path spot)) s n = nothing_below m.code 0 (doing m fuel here at (Declares t x (Taken path spot)) s n)
statement_below m fuel here at (Declares t x (Zeros e spot)) s n = nothing_below m.code 0 (doing m fuel here at (Declares t x (Zeros e spot)) s n)
statement_below m fuel here at (Declares t x (Made c gs args spot)) s n = nothing_below m.code 0 (doing m fuel here at (Declares t x (Made c gs args spot)) s n)
statement_below m fuel here at (Assigns x (Returned i)) s n = given_below m.code (suc (costs m.code fuel).call)
    (there (here.context.local x.name)) at n _ (λ l e. call_below m fuel here at i _ s n)
statement_below m fuel here at (Assigns x (Value e)) s n = nothing_below m.code 0 (doing m fuel here at (Assigns x (Value e)) s n)
statement_below m fuel here at (Assigns x (Taken path spot)) s n = nothing_below m.code 0 (doing m fuel here at (Assigns x (Taken path spot)) s n)
statement_below m fuel here at (Assigns x (Zeros e spot)) s n = nothing_below m.code 0 (doing m fuel here at (Assigns x (Zeros e spot)) s n)
statement_below m fuel here at (Assigns x (Made c gs args spot)) s n = nothing_below m.code 0 (doing m fuel here at (Assigns x (Made c gs args spot)) s n)
statement_below m fuel here at (Stores path e) s n = nothing_below m.code 0 (doing m fuel here at (Stores path e) s n)
statement_below m fuel here at (StoresAt path i e) s n = nothing_below m.code 0 (doing m fuel here at (StoresAt path i e) s n)
statement_below m fuel here at (Calls i) s n = call_below m fuel here at i None s n
statement_below m fuel here at (Chooses e nb b) s n = given_below m.code
    (suc (block_cost (costs m.code fuel) b)) (truth_of m.code s e) at n _
    (λ test i. either_below m.code (suc (block_cost (costs m.code fuel) b)) test
    (GoesOn (block_left fuel (deeper 0 here) b) s n) (GoesOn [] s n) (omega arith) (omega arith))
statement_below m fuel here at (ChoosesElse e nb b nc c) s n = given_below m.code
    (suc (block_cost (costs m.code fuel) b + block_cost (costs m.code fuel) c)) (truth_of m.code s e) at n _
    (λ test i. either_below m.code (suc (block_cost (costs m.code fuel) b + block_cost (costs m.code fuel) c)) test
    (GoesOn (block_left fuel (deeper 0 here) b) s n) (GoesOn (block_left fuel (deeper 1 here) c) s n)
    (omega arith) (omega arith))
statement_below m fuel here at (Repeats e nb b) s n = omega arith
statement_below m fuel here at (Groups g) s n = nothing_below m.code 0 (doing m fuel here at (Groups g) s n)
statement_below m fuel here at (Splits gs nb b) s n = either_below m.code (suc (suc (block_cost (costs m.code fuel) b)))
    here.inside (GoesOn (block_left fuel (splitting gs here) b) s n)
    (split_left fuel here gs b s n (all_go_away here gs s n)) (omega arith)
    (split_below m.code fuel here gs b s n (all_go_away here gs s n))
statement_below m fuel here at (Locks g number b) s n = lock_below m.code fuel here g b s n (cell_at g.name s n) _
statement_below m fuel here at (Freezes x) s n = nothing_below m.code 0 (doing m fuel here at (Freezes x) s n)
statement_below m fuel here at (Shares x g) s n = nothing_below m.code 0 (doing m fuel here at (Shares x g) s n)
statement_below m fuel here at (Prints e) s n = nothing_below m.code 0 (doing m fuel here at (Prints e) s n)
statement_below m fuel here at (PrintsText text) s n = nothing_below m.code 0 (doing m fuel here at (PrintsText text) s n)
statement_below m fuel here at (Asserts e) s n = nothing_below m.code 0 (doing m fuel here at (Asserts e) s n)
statement_below m fuel here at (Returns e) s n = nothing_below m.code 0 (doing m fuel here at (Returns e) s n)

first_below : {W : Type 0} (m : Machine W) (x : ToDo) (s : State) (n : Notes W)
    → IsBelow m.code (cost m.code x) (first_left m x s n)
first_below m (TheStatement fuel here at a) s n = statement_below m fuel here at a s n
first_below m (TheLines fuel here all j End) s n = omega arith
first_below m (TheLines fuel here all j (Next at a rest)) s n = omega arith
first_below m (TheTurns fuel here t at e b) s n = given_below m.code ((costs m.code fuel).turns b) (truth_of m.code s e)
    at _ _ (λ test i. either_below m.code ((costs m.code fuel).turns b) test (turn_left fuel here t at e b s _)
    (GoesOn [] s _) (turn_below m.code fuel here t at e b s _) (none_below m.code fuel b))
first_below m (TheNames c) s n = omega arith
first_below m (TheGroups here gs before log) s n = nothing_below m.code 0 _
first_below m (TheCall at i f before place) s n = nothing_below m.code 0 _

-- what is left after a step is less than what was to be done
pub steps_cost : {W : Type 0} (m : Machine W) (x : ToDo) (s t : State) (n k : Notes W) (ys : List ToDo)
    → first_left m x s n ≡ GoesOn ys t k → stack_cost m.code ys < cost m.code x
steps_cost m x s t n k ys e = subst (λ (l : Left _). IsBelow m.code (cost m.code x) l) e (first_below m x s n)
