-- The order of instances in the source, and the statements that they are.
use Rattle.std.specs.Prelude.{ℕ, nat_eq, nat_lt, Bool, true, false, ◌&&◌, ◌||◌, not, if◌then◌else◌, List, [], ◌∷◌}
use Rattle.std.specs.Prelude.{Option, None}
use Rattle.ae_rules.specs.Uses.{statement_at}
use Rattle.ae_tree.specs.Plain.{Action, RightSide, Value, Taken, Zeros, Made, Returned, Code}
use Rattle.ae_tree.specs.Plain.{Declares, Assigns, Stores, StoresAt, Calls, Chooses, ChoosesElse, Repeats, Groups}
use Rattle.ae_tree.specs.Plain.{Splits, Locks, Freezes, Shares, Prints, PrintsText, Asserts, Returns}
use Rattle.ae_rules.specs.Verdict.{given}
use Rattle.ae_rules.specs.Lookups.{is_empty}
use Rattle.ae_rules.specs.Instances.{Instance, Point, InBlock, AtChoice, AtLoop, Nowhere, inside, first_point}

-- ---- source order

-- Source order is that of the paths, number by number, and a path comes before those that go on from it.
abbrev pub comes_before : Instance → Instance → Bool
comes_before [] [] = false
comes_before [] (j ∷ r) = true
comes_before (i ∷ q) [] = false
comes_before (i ∷ q) (j ∷ r) = nat_lt i j || (nat_eq i j && comes_before q r)

-- the second path is the first one or goes on from it
abbrev pub is_prefix_of : Instance → Instance → Bool
is_prefix_of [] r = true
is_prefix_of (i ∷ q) [] = false
is_prefix_of (i ∷ q) (j ∷ r) = nat_eq i j && is_prefix_of q r

-- the later of two in source order
abbrev pub later_of : Instance → Instance → Instance
later_of q r = if comes_before q r then r else q

-- ---- simple statements

-- the statement with this number at a point; a branch and a turn are none
abbrev pub statement_at_point : Point → ℕ → Option Action
statement_at_point (InBlock locked s) i = statement_at s.lines i
statement_at_point (AtChoice locked s other) i = None
statement_at_point (AtLoop locked uses s) i = None
statement_at_point Nowhere i = None

-- the statement that this path leads to from a point
abbrev pub statement_from : Code → Point → List ℕ → Option Action
statement_from p at [] = None
statement_from p at (i ∷ q) = if is_empty q then statement_at_point at i else statement_from p (inside p at i) q

abbrev pub is_call : RightSide → Bool
is_call (Returned i) = true
is_call (Value e) = false
is_call (Taken path at) = false
is_call (Zeros e at) = false
is_call (Made x gs args at) = false

-- the statement is no call, `if`, `while` or `split`
abbrev pub is_simple : Action → Bool
is_simple (Declares t x e) = not (is_call e)
is_simple (Assigns x e) = not (is_call e)
is_simple (Stores path e) = true
is_simple (StoresAt path i e) = true
is_simple (Calls i) = false
is_simple (Chooses e n b) = false
is_simple (ChoosesElse e n b k b') = false
is_simple (Repeats e n b) = false
is_simple (Groups g) = true
is_simple (Splits gs n b) = false
is_simple (Locks g n b) = true
is_simple (Freezes x) = true
is_simple (Shares x g) = true
is_simple (Prints e) = true
is_simple (PrintsText s) = true
is_simple (Asserts e) = true
is_simple (Returns e) = true

-- the instance is a simple statement
abbrev pub is_simple_at : Code → Instance → Bool
is_simple_at p q = given (statement_from p (first_point p) q) false is_simple
