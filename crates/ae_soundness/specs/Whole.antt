-- Laws on whole runs: where no group is split, a run of an accepted program never lacks anything.
use Rattle.std.specs.Prelude.{◌≡◌, ℕ, ℤ, Bool, true, false, List, Option, None, Some, All, ⊤}
use Rattle.ae_text.specs.declared.refusal.Spot.{Spot}
use Rattle.ae_tree.specs.Plain.{Action, Declares, Assigns, Calls}
use Rattle.ae_tree.specs.Plain.{Splits, Locks}
use Rattle.ae_tree.specs.Plain.{Definition, Code}
use Rattle.ae_tree.specs.WellShaped.{EachStatement, WellShaped}
use Rattle.ae_tree.specs.FreeThis.{ThisIsFree}
use Rattle.ae_rules.specs.Lookups.{method_at}
use Rattle.ae_rules.specs.Context.{Context}
use Rattle.ae_rules.specs.Judges.{Judges, Accepts, start}
use Rattle.ae_rules.specs.Table.{TableHolds}
use Rattle.ae_rules.specs.Paths.{is_call}
use Rattle.ae_semantics.specs.Places.{State}
use Rattle.ae_semantics.specs.declared.report.Ending.{Ending}
use Rattle.ae_semantics.specs.declared.report.Ending.TheVariants.{Done, Trap, Fuel}
use Rattle.ae_semantics.specs.Observations.{Seen, Notes, Observer}
use Rattle.ae_semantics.specs.Runs.{Run, Went, Ends, Stops, Where, Machine, Below}
use Rattle.ae_semantics.specs.Meaning.{one}
use Rattle.ae_semantics.specs.Means.{run, stops_at, mean}
use Rattle.ae_soundness.specs.Fits.{FitsContext, NoneAway}
use Rattle.ae_soundness.specs.Returns.{HasResult, EndsIn}

-- the state fits what is known there, and no group is in a cell
abbrev pub StandsAt : Code → Context → State → Type 0
StandsAt p c s = FitsContext p c s × NoneAway s

-- a run that goes on to a state of which this holds, or ends by a trap or for want of fuel; nothing is lacking
abbrev pub RunsTo : {W : Type 0} → (State → Type 0) → Run W → Type 0
RunsTo P (Went s n) = P s
RunsTo P (Ends Done n) = ⊥
RunsTo P (Ends (Trap code at) n) = Unit {0}
RunsTo P (Ends (Fuel at) n) = Unit {0}
RunsTo P (Stops n) = ⊥

-- ---- bodies

-- A method's body was left here: the state stands where the method may end, and has a result of the method's form.
pub record BodyEnds (p : Code) (m : Definition) (t : State) : Type 0 where
  pub after : Context
  pub ends : EndsIn p m after
  pub stands : StandsAt p after t
  pub result : HasResult p m t

-- with less fuel each method's body, from a state that stands where the method begins, is left as it is judged to end
abbrev pub BodiesKeep : {W : Type 0} → Code → Option (Below W) → Type 0
BodiesKeep p None = Unit {0}
BodiesKeep p (Some run) = (number : ℕ) (m : Definition) → method_at p number ≡ Some m → (here : Where)
    → here.method ≡ m → here.context ≡ start p m → (s : State) (n : Notes _) → StandsAt p (start p m) s
    → RunsTo (BodyEnds p m) (run.block here m.body s n)

-- ---- calls

-- the statement calls a method
abbrev pub is_calling : Action → Bool
is_calling (Declares t x e) = is_call e
is_calling (Assigns x e) = is_call e
is_calling (Calls i) = true
is_calling _ = false

-- with this fuel each judged statement that calls goes on from a state that stands to one that stands
abbrev pub CallsKeep : {W : Type 0} → Machine W → Option (Below W) → Type 0
CallsKeep m below = (here : Where) (at : Spot) (a : Action) (d : Context) (s : State) (n : Notes _)
    → is_calling a ≡ true → Judges m.code here.method at a here.context d → StandsAt m.code here.context s
    → RunsTo (StandsAt m.code d) (one m below here at a s n)

-- With these machines, where bodies are left as they are judged to end, each statement that calls goes on to a state
-- that stands. Nothing is declared under the name `this`.
abbrev pub CallsKeepBy : Type 0 → Type 0
CallsKeepBy W = (m : Machine W) → WellShaped m.code → ThisIsFree m.code → TableHolds m.code
    → (below : Option (Below W)) → BodiesKeep m.code below → CallsKeep m below

-- so it is with machines that note nothing more, and with those that list what they were answered
abbrev pub CallsKeepStanding : Type 0
CallsKeepStanding = CallsKeepBy ⊤ × CallsKeepBy (List Seen)

-- ---- whole runs

-- the statement neither splits groups nor is an atomic block
abbrev pub SplitsNothing : Action → Type 0
SplitsNothing (Splits gs n b) = ⊥
SplitsNothing (Locks g n b) = ⊥
SplitsNothing _ = Unit {0}

-- no statement of the program splits groups, and none is an atomic block
abbrev pub IsUnsplit : Code → Type 0
IsUnsplit p = All (λ (m : Definition). EachStatement SplitsNothing m.body) p.methods

-- the run went through, or ended by a trap or for want of fuel; nothing was lacking
abbrev pub LacksNothing : {W : Type 0} → Run W → Type 0
LacksNothing r = RunsTo (λ s. Unit {0}) r

-- With each observer of this kind each run of an accepted and well-shaped program, in which nothing is split and
-- nothing is declared under the name `this`, lacks nothing.
abbrev pub RunsLackNothingBy : Type 0 → Type 0
RunsLackNothingBy W = (o : Observer W) (p : Code) → WellShaped p → ThisIsFree p → Accepts p → IsUnsplit p
    → (ints : List ℤ) (fuel : ℕ) (w : W) → LacksNothing (run (stops_at p o) ints fuel w)

-- so it is with observers that note nothing more, and with those that list what they answered
abbrev pub AcceptedRunsNeverLack : Type 0
AcceptedRunsNeverLack = RunsLackNothingBy ⊤ × RunsLackNothingBy (List Seen)

-- the meaning of such a program has an ending, whatever is observed: it is done, it is a trap, or the fuel was spent
abbrev pub AcceptedMeaningsEnd : Type 0
AcceptedMeaningsEnd = (p : Code) → WellShaped p → ThisIsFree p → Accepts p → IsUnsplit p → (ints : List ℤ) (fuel : ℕ)
    (seen : List Seen) → (e : Ending) × ((mean p ints fuel seen).ending ≡ Some e)
