-- What statements and bodies of a whole program change, where no group is split.
use Rattle.std.specs.Prelude.{◌≡◌, ℕ, List, length, Some, ⊤}
use Rattle.ae_text.specs.declared.refusal.Spot.{Spot}
use Rattle.ae_tree.specs.Plain.{Action, Definition, Code}
use Rattle.ae_tree.specs.WellShaped.{InBlocks, HasField, ActionNamed, IsNoReturn, WellShaped}
use Rattle.ae_tree.specs.FreeThis.{ThisIsFree}
use Rattle.ae_rules.specs.Lookups.{method_at}
use Rattle.ae_rules.specs.Context.{Context}
use Rattle.ae_rules.specs.Judges.{Judges, Accepts, start}
use Rattle.ae_rules.specs.BlockLaws.{IsRight}
use Rattle.ae_rules.specs.Uses.{outside, statement_uses, lines_use}
use Rattle.ae_semantics.specs.Places.{State}
use Rattle.ae_semantics.specs.Observations.{Seen, Notes, Observer}
use Rattle.ae_semantics.specs.Runs.{Run, Where}
use Rattle.ae_semantics.specs.Meaning.{one, block, below}
use Rattle.ae_semantics.specs.Means.{stops_at}
use Rattle.ae_soundness.specs.Whole.{StandsAt, SplitsNothing, IsUnsplit}
use Rattle.ae_changes.specs.Changes.{RunChanges}
use Rattle.ae_changes.specs.Bodies.{needs_use}

-- ---- statements

-- The statement, and each in its blocks, is as in the text of a well-shaped program in which nothing is split: it
-- splits nothing, what it takes or writes is a field, and its names are the program's.
pub record IsOfText (p : Code) (a : Action) : Type 0 where
  pub unsplit : SplitsNothing a × InBlocks SplitsNothing a
  pub fields : HasField a × InBlocks HasField a
  pub names : ActionNamed (length p.names) a × InBlocks (ActionNamed (length p.names)) a

-- neither the statement nor one in its blocks is a `return`
abbrev pub IsNoReturnAtAll : Action → Type 0
IsNoReturnAtAll a = IsNoReturn a × InBlocks IsNoReturn a

-- With each observer of this kind and each fuel a judged statement of a method of an accepted and well-shaped program,
-- in which nothing is split and nothing is declared under the name `this`, changes only what it writes, from a state
-- that stands where it begins; and the result only where it has a `return`.
abbrev pub StatementsChangeBy : Type 0 → Type 0
StatementsChangeBy W = (o : Observer W) (p : Code) → WellShaped p → ThisIsFree p → Accepts p → IsUnsplit p
    → (fuel number : ℕ) (here : Where) → method_at p number ≡ Some here.method → (at : Spot) (a : Action) (d : Context)
    (s : State) (n : Notes W) → IsOfText p a → Judges p here.method at a here.context d → IsRight p here.context
    → StandsAt p here.context s
    → RunChanges here.context (statement_uses p here.method a here.context) (IsNoReturnAtAll a) s n
    (one (stops_at p o) (below (stops_at p o) fuel) here at a s n)

-- so it is with observers that note nothing more, and with those that list what they answered
abbrev pub StatementsChangeAsUsed : Type 0
StatementsChangeAsUsed = StatementsChangeBy ⊤ × StatementsChangeBy (List Seen)

-- ---- bodies

-- what a run of a method's body changes: of its caller's groups only those that the method needs for itself, and of its
-- parameters only those that its statements write
abbrev pub BodyChanges : {W : Type 0} → Code → Definition → State → Notes W → Run W → Type 0
BodyChanges p m s n r = RunChanges (start p m) (needs_use m) ⊥ s n r
    × RunChanges (start p m) (outside (start p m) (lines_use p m m.body (start p m))) ⊥ s n r

-- So does each body of a method of such a program, from a state that stands where it begins.
abbrev pub BodiesChangeBy : Type 0 → Type 0
BodiesChangeBy W = (o : Observer W) (p : Code) → WellShaped p → ThisIsFree p → Accepts p → IsUnsplit p
    → (fuel number : ℕ) (here : Where) → method_at p number ≡ Some here.method → here.context ≡ start p here.method
    → (s : State) (n : Notes W) → StandsAt p (start p here.method) s
    → BodyChanges p here.method s n (block (stops_at p o) (below (stops_at p o) fuel) here here.method.body s n)

-- so it is with observers that note nothing more, and with those that list what they answered
abbrev pub BodiesChangeAsUsed : Type 0
BodiesChangeAsUsed = BodiesChangeBy ⊤ × BodiesChangeBy (List Seen)
