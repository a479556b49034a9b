-- Laws: from two states that agree on what a statement uses it goes alike, and leaves states that agree again.
use Rattle.std.specs.Prelude.{◌≡◌, ℕ, Bool, true, List, length, Option, None, Some, ⊤}
use Rattle.ae_text.specs.declared.refusal.Spot.{Spot}
use Rattle.ae_tree.specs.FreeThis.{ThisIsFree}
use Rattle.ae_tree.specs.WellShaped.{InBlocks, HasField, ActionNamed, WellShaped}
use Rattle.ae_rules.specs.declared.uses.Resource.{Resource}
use Rattle.ae_tree.specs.Plain.{Action, Definition, Code}
use Rattle.ae_rules.specs.Context.{Context}
use Rattle.ae_rules.specs.Lookups.{method_at}
use Rattle.ae_rules.specs.Table.{TableHolds}
use Rattle.ae_rules.specs.Uses.{statement_uses}
use Rattle.ae_rules.specs.Judges.{Judges, Accepts, start}
use Rattle.ae_rules.specs.BlockLaws.{IsRight}
use Rattle.ae_semantics.specs.Places.{State}
use Rattle.ae_semantics.specs.Observations.{Seen, Notes, Observer}
use Rattle.ae_semantics.specs.Runs.{Where, Machine, Below}
use Rattle.ae_semantics.specs.Meaning.{one, below}
use Rattle.ae_semantics.specs.Means.{stops_at}
use Rattle.ae_soundness.specs.Fits.{FitsContext}
use Rattle.ae_soundness.specs.Laws.{is_without_calls}
use Rattle.ae_soundness.specs.Whole.{StandsAt, is_calling, SplitsNothing, IsUnsplit}
use Rattle.ae_needs.specs.Agree.{Agree, Covers, with_used, GoAlike}

-- With this fuel a statement goes alike from two states that stand so and agree on all that it uses of what is visible.
-- The states after it agree on what those before agreed on, and on all that it uses.
abbrev pub ReadsItsUses : {W : Type 0} → (Code → Context → State → Type 0) → Machine W → Option (Below W) → Where → Spot
    → Action → Type 0
ReadsItsUses Stands m below here at a = (on : Resource → Bool) (s t : State) (n k : Notes _)
    → Stands m.code here.context s → Stands m.code here.context t
    → Covers on here.context (statement_uses m.code here.method a here.context) → Agree on s t
    → GoAlike (Agree (with_used (statement_uses m.code here.method a here.context) on)) n k
    (one m below here at a s n) (one m below here at a t k)

-- ---- without calls

-- with these machines each judged statement that has no block and calls no method goes so from states that fit what is
-- known
abbrev pub ActsReadBy : Type 0 → Type 0
ActsReadBy W = (m : Machine W) (below : Option (Below W)) (here : Where) (at : Spot) (a : Action) (d : Context)
    → is_without_calls a ≡ true → Judges m.code here.method at a here.context d
    → ReadsItsUses FitsContext m below here at a

-- so it is with machines that note nothing more, and with those that list what they were answered
abbrev pub ActsReadWhatTheyUse : Type 0
ActsReadWhatTheyUse = ActsReadBy ⊤ × ActsReadBy (List Seen)

-- ---- calls

-- with less fuel each method's body goes alike from a state that stands where it begins, whatever was printed before,
-- and comes to one state
abbrev pub BodiesGoAlike : {W : Type 0} → Code → Option (Below W) → Type 0
BodiesGoAlike p None = Unit {0}
BodiesGoAlike p (Some run) = (number : ℕ) (m : Definition) → method_at p number ≡ Some m → (here : Where)
    → here.method ≡ m → here.context ≡ start p m → (s : State) (n k : Notes _) → StandsAt p (start p m) s
    → GoAlike (λ u v. u ≡ v) n k (run.block here m.body s n) (run.block here m.body s k)

-- in a well-shaped program whose declarations hold, with these machines, each judged statement that calls goes alike
-- where bodies do
abbrev pub CallsReadBy : Type 0 → Type 0
CallsReadBy W = (m : Machine W) → WellShaped m.code → TableHolds m.code → (below : Option (Below W))
    → BodiesGoAlike m.code below → (here : Where) (at : Spot) (a : Action) (d : Context) → is_calling a ≡ true
    → Judges m.code here.method at a here.context d → ReadsItsUses StandsAt m below here at a

-- so it is with machines that note nothing more, and with those that list what they were answered
abbrev pub CallsReadWhatTheyUse : Type 0
CallsReadWhatTheyUse = CallsReadBy ⊤ × CallsReadBy (List Seen)

-- ---- every statement

-- A statement of a method of the program, where only names of the program are visible and of each local is held what
-- may be. It splits nothing, what it takes or writes is a field, and its names are the program's; so it is inside it.
pub record IsOfText (p : Code) (here : Where) (a : Action) : Type 0 where
  pub number : ℕ
  pub method : method_at p number ≡ Some here.method
  pub right : IsRight p here.context
  pub unsplit : SplitsNothing a × InBlocks SplitsNothing a
  pub fields : HasField a × InBlocks HasField a
  pub named : ActionNamed (length p.names) a × InBlocks (ActionNamed (length p.names)) a

-- With each observer of this kind, and each fuel, each judged statement of an accepted and well-shaped program, in
-- which nothing is split and nothing is declared under the name `this`, reads what it uses.
abbrev pub StatementsReadBy : Type 0 → Type 0
StatementsReadBy W = (o : Observer W) (p : Code) → WellShaped p → ThisIsFree p → Accepts p → IsUnsplit p → (fuel : ℕ)
    (here : Where) (at : Spot) (a : Action) (d : Context) → IsOfText p here a
    → Judges p here.method at a here.context d
    → ReadsItsUses StandsAt (stops_at p o) (below (stops_at p o) fuel) here at a

-- so it is with observers that note nothing more, and with those that list what they answered
abbrev pub StatementsReadWhatTheyUse : Type 0
StatementsReadWhatTheyUse = StatementsReadBy ⊤ × StatementsReadBy (List Seen)
