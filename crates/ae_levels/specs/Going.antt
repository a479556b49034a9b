-- A run that is under way, against the whole run to which it comes.
use Rattle.std.specs.Prelude.{◌≡◌, ℕ, List, ◌∷◌, ◌++◌, Option}
use Rattle.ae_text.specs.declared.refusal.Spot.{Spot}
use Rattle.ae_tree.specs.Plain.{Invocation, Action, Definition, Code}
use Rattle.ae_tree.specs.WellShaped.{InBlocks, WellShaped}
use Rattle.ae_tree.specs.FreeThis.{ThisIsFree}
use Rattle.ae_rules.specs.Verdict.{Holds}
use Rattle.ae_rules.specs.Context.{Context}
use Rattle.ae_rules.specs.Statements.{judge_statement}
use Rattle.ae_rules.specs.Judges.{Accepts}
use Rattle.ae_semantics.specs.Places.{State}
use Rattle.ae_semantics.specs.declared.report.Ending.{Ending}
use Rattle.ae_semantics.specs.Observations.{Seen, Notes}
use Rattle.ae_semantics.specs.Runs.{Run, Where}
use Rattle.ae_semantics.specs.Means.{source_machine, notes_of, ending_of, pieces_bytes}
use Rattle.ae_semantics.specs.Stacks.{ResultPlace, ToDo, TheStatement, done_all}
use Rattle.ae_soundness.specs.Whole.{SplitsNothing, IsUnsplit}
use Rattle.ae_values.specs.declared.env.Bind.{Bind}
use Rattle.ae_names.specs.Known.{AreKnown, names_declared}
use Rattle.ae_steps.specs.Steps.{call_left, resumed}
use Rattle.ae_levels.specs.Levels.{NamesInOrder, Aim, Level, names_aimed, IsDeclared, IsPlace, StandFor}

-- an accepted program of the grammar in which nothing is split, and nothing declared under the name `this`
pub record IsSound (p : Code) : Type 0 where
  pub shaped : WellShaped p
  pub free : ThisIsFree p
  pub accepted : Accepts p
  pub unsplit : IsUnsplit p

-- The whole run comes to what is still to be done at these levels, from this state on; these bytes are printed.
pub record Going (p : Code) (whole : Run (List Seen)) (names : NamesInOrder) (waiting : List Bind) (s : State)
    (out : List ℕ) (ls : List Level) : Type 0 where
  pub stack : List ToDo
  pub notes : Notes (List Seen)
  pub stands : StandFor p names waiting ls stack
  pub comes : whole ≡ done_all (source_machine p) stack s notes
  pub printed : pieces_bytes notes.log ≡ out

-- A statement of a method begins, at these levels behind it, where what it declares is declared.
pub record Begun (p : Code) (whole : Run (List Seen)) (names : NamesInOrder) (waiting : List Bind) (s : State) (out : List ℕ)
    (fuel depth : ℕ) (m : Definition) (at : Spot) (a : Action) (ls : List Level) : Type 0 where
  pub here : Where
  pub method : here.method ≡ m
  pub depth_here : here.depth ≡ depth
  pub after : Context
  pub judged : judge_statement p m at a here.context ≡ Holds after
  pub known_here : AreKnown here.context names
  pub unsplit : SplitsNothing a
  pub inside : InBlocks SplitsNothing a
  pub stack : List ToDo
  pub notes : Notes (List Seen)
  pub stands : StandFor p (names ++ names_declared a) waiting ls stack
  pub comes : whole ≡ done_all (source_machine p) (TheStatement fuel here at a ∷ stack) s notes
  pub printed : pieces_bytes notes.log ≡ out

-- A call of a statement begins, where its result goes to this aim.
pub record CallBegun (p : Code) (whole : Run (List Seen)) (names : NamesInOrder) (waiting : List Bind) (s : State)
    (out : List ℕ) (fuel depth : ℕ) (at : Spot) (i : Invocation) (to : Aim) (ls : List Level) : Type 0 where
  pub here : Where
  pub depth_here : here.depth ≡ depth
  pub place : Option ResultPlace
  pub is_place : IsPlace names to place
  pub declared : IsDeclared p names to
  pub stack : List ToDo
  pub notes : Notes (List Seen)
  pub stands : StandFor p (names ++ names_aimed to) waiting ls stack
  pub comes : whole ≡ resumed (source_machine p) stack (call_left (source_machine p) fuel here at i place s notes)
  pub printed : pieces_bytes notes.log ≡ out

-- the whole run has this ending, if any, and these bytes were printed
pub record ComesTo (whole : Run (List Seen)) (ending : Option Ending) (out : List ℕ) : Type 0 where
  pub ends : ending_of whole ≡ ending
  pub printed : pieces_bytes (notes_of whole).log ≡ out
