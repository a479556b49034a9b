-- Laws on the names with which methods begin.
use Rattle.std.specs.Prelude.{◌≡◌, ℕ, List, Option, None, Some}
use Rattle.ae_text.specs.declared.refusal.Spot.{Spot}
use Rattle.ae_tree.specs.Plain.{RightSide, Value, Taken, Zeros, Made, Returned, Invocation, Definition, Code}
use Rattle.ae_tree.specs.Plain.{Action, Declares, Assigns, Calls}
use Rattle.ae_tree.specs.WellShaped.{WellShaped}
use Rattle.ae_tree.specs.FreeThis.{ThisIsFree}
use Rattle.ae_rules.specs.Verdict.{Holds}
use Rattle.ae_rules.specs.Context.{Context}
use Rattle.ae_rules.specs.Lookups.{method_at}
use Rattle.ae_rules.specs.Statements.{judge_statement}
use Rattle.ae_rules.specs.Judges.{Accepts, start}
use Rattle.ae_semantics.specs.Values.{Val}
use Rattle.ae_semantics.specs.Places.{Fine, CellName, State}
use Rattle.ae_values.specs.declared.env.Bind.{Bind}
use Rattle.ae_values.specs.Shapes.{shapes}
use Rattle.ae_frames.specs.Entries.{NamesApart, EnteredCall, entered, names_entered}
use Rattle.ae_names.specs.Known.{AreKnown, state_of}

-- In an accepted program in which nothing is declared under the name `this` the receiver, the parameters and the needed
-- groups of each method all have names of their own.
abbrev pub NamesStandApart : Type 0
NamesStandApart = (p : Code) → WellShaped p → ThisIsFree p → Accepts p → NamesApart p

-- the call on a right side
abbrev pub call_right : RightSide → Option Invocation
call_right (Value e) = None
call_right (Taken path at) = None
call_right (Zeros e at) = None
call_right (Made x gs args at) = None
call_right (Returned i) = Some i

-- the call of a statement that calls a method
abbrev pub call_in : Action → Option Invocation
call_in (Declares t x e) = call_right e
call_in (Assigns x e) = call_right e
call_in (Calls i) = Some i
call_in _ = None

-- the method of an entered call is one of the program, and the names with which its body begins are known there
abbrev pub BeginsKnown : Code → EnteredCall → Type 0
BeginsKnown p x = AreKnown (start p x.callee.method) (names_entered x)
    × (method_at p x.callee.number ≡ Some x.callee.method)

-- In an accepted program in which nothing is declared under the name `this`: where the call of a judged statement is
-- entered from a state whose names are those that are known there, the names with which the body of the method begins
-- are those that are known at its start.
abbrev pub EnteredNamesAreKnown : Type 0
EnteredNamesAreKnown = (p : Code) → WellShaped p → ThisIsFree p → Accepts p → (m : Definition) (at : Spot) (a : Action)
    (c d : Context) (i : Invocation) (cells : ℕ → CellName) (r : Option Val) (bs : List Bind) (s : State)
    (x : EnteredCall) → judge_statement p m at a c ≡ Holds d → call_in a ≡ Some i → AreKnown c (shapes bs)
    → s ≡ state_of cells r bs → entered p i s ≡ Fine x → BeginsKnown p x
