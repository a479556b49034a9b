-- The meaning of a program: its statements in source order, up to the first ending.
use Rattle.std.specs.Prelude.{ℕ, nat_eq, if◌then◌else◌, ℤ, List, [], ◌∷◌, ◌++◌, Option, None, Some, is_some}
use Rattle.std.specs.Fmt.{signed_decimal}
use Rattle.ae_text.specs.declared.refusal.Spot.{Spot}
use Rattle.ae_tree.specs.Plain.{RightSide, Value, Taken, Zeros, Made, Returned, Lines, End, Next, Definition, Code}
use Rattle.ae_tree.specs.Plain.{Action, Declares, Assigns, Stores, StoresAt, Calls, Chooses, ChoosesElse, Repeats}
use Rattle.ae_tree.specs.Plain.{Groups, Splits, Locks, Freezes, Shares, Prints, PrintsText, Asserts, Returns}
use Rattle.ae_tree.specs.Names.{main}
use Rattle.ae_meaning.specs.declared.report.Ending.{Ending}
use Rattle.ae_meaning.specs.declared.report.Ending.TheVariants.{Done, Trap}
use Rattle.ae_meaning.specs.Values.{Env, empty, today_with, TodayOutcome, Fine, Traps, Lacks, today_value}

-- what statements find and leave: the locals, and the bytes printed
pub record TodayState : Type 0 where
  pub env : Env
  pub log : List ℕ

-- statements go through, or end the run, or stop without an ending; the bytes printed stay
pub data Run : Type 0 where
  Went : TodayState → Run
  Ends : Ending → List ℕ → Run
  Stops : List ℕ → Run

-- first the one, then the other
abbrev pub today_and_then : Run → (TodayState → Run) → Run
today_and_then (Went s) go = go s
today_and_then (Ends ending log) go = Ends ending log
today_and_then (Stops log) go = Stops log

-- a trap in an expression stands at its statement
abbrev pub today_given : TodayOutcome → Spot → TodayState → (ℤ → Run) → Run
today_given (Fine v) at s go = go v
today_given (Traps code) at s go = Ends (Trap code at) s.log
today_given Lacks at s go = Stops s.log

abbrev pub bound : ℕ → ℤ → TodayState → TodayState
bound x v s = record { env = today_with x v s.env; log = s.log }

-- the decimal number and a line feed
abbrev pub today_printed : ℤ → TodayState → TodayState
today_printed v s = record { env = s.env; log = s.log ++ (signed_decimal v ++ 10 ∷ []) }

-- a right side is evaluated for a local
abbrev pub right : RightSide → Spot → TodayState → (ℤ → Run) → Run
right (Value e) at s go = today_given (today_value e s.env) at s go
right (Taken p place) at s go = Stops s.log
right (Zeros e place) at s go = Stops s.log
right (Made c groups args place) at s go = Stops s.log
right (Returned c) at s go = Stops s.log

-- one statement; a form that does not run yet stops
abbrev pub today_one : Spot → Action → TodayState → Run
today_one at (Declares ty x e) s = right e at s (λ v. Went (bound x.name v s))
today_one at (Assigns x e) s = right e at s (λ v. Went (bound x.name v s))
today_one at (Stores p e) s = Stops s.log
today_one at (StoresAt p i e) s = Stops s.log
today_one at (Calls c) s = Stops s.log
today_one at (Chooses e n b) s = Stops s.log
today_one at (ChoosesElse e n b m c) s = Stops s.log
today_one at (Repeats e n b) s = Stops s.log
today_one at (Groups g) s = Stops s.log
today_one at (Splits gs n b) s = Stops s.log
today_one at (Locks g n b) s = Stops s.log
today_one at (Freezes x) s = Stops s.log
today_one at (Shares x g) s = Stops s.log
today_one at (Prints e) s = today_given (today_value e s.env) at s (λ v. Went (today_printed v s))
today_one at (PrintsText text) s = Stops s.log
today_one at (Asserts e) s = Stops s.log
today_one at (Returns e) s = Stops s.log

-- statements in source order, up to the first that does not go through
abbrev pub today_many : Lines → TodayState → Run
today_many End s = Went s
today_many (Next at a rest) s = today_and_then (today_one at a s) (today_many rest)

-- the ending of a whole run, where it has one, and its bytes
pub record Meaning : Type 0 where
  pub ending : Option Ending
  pub out : List ℕ

abbrev pub meaning_of_run : Run → Meaning
meaning_of_run (Went s) = record { ending = Some Done; out = s.log }
meaning_of_run (Ends ending log) = record { ending = Some ending; out = log }
meaning_of_run (Stops log) = record { ending = None; out = log }

-- the body of the first top-level method named main
abbrev pub main_body : List Definition → Lines
main_body [] = End
main_body (m ∷ ms) = if is_some m.class then main_body ms else
    (if nat_eq m.name.name main then m.body else main_body ms)

abbrev pub begin : TodayState
begin = record { env = empty; log = [] }

-- the program's run in source order, from no locals and nothing printed.
-- The integers are for main's parameter and the fuel for calls and loops, which no program has yet.
unfoldable pub today_seq : Code → List ℤ → ℕ → Meaning
today_seq code ints fuel = meaning_of_run (today_many (main_body code.methods) begin)
