-- What calls and whole bodies change, where bodies below change only what their methods need.
use Rattle.std.specs.Prelude.{◌≡◌, ℕ, true, List, Option, None, Some, ⊤}
use Rattle.ae_text.specs.declared.refusal.Spot.{Spot}
use Rattle.ae_tree.specs.declared.tree.Need.{Need}
use Rattle.ae_tree.specs.declared.tree.Need.TheVariants as need_of
use Rattle.ae_tree.specs.declared.tree.GroupNeed.{GroupNeed}
use Rattle.ae_tree.specs.Plain.{Action, Definition, Code}
use Rattle.ae_tree.specs.WellShaped.{WellShaped}
use Rattle.ae_tree.specs.FreeThis.{ThisIsFree}
use Rattle.ae_rules.specs.declared.uses.Resource.TheVariants as resource
use Rattle.ae_rules.specs.declared.uses.Mode.{Mode}
use Rattle.ae_rules.specs.declared.uses.Mode.TheVariants as mode
use Rattle.ae_rules.specs.Edges.{Uses}
use Rattle.ae_rules.specs.Verdict.{given}
use Rattle.ae_rules.specs.Lookups.{method_at}
use Rattle.ae_rules.specs.Table.{TableHolds}
use Rattle.ae_rules.specs.Context.{Context}
use Rattle.ae_rules.specs.Judges.{Judges, need_for, start}
use Rattle.ae_rules.specs.BlockLaws.{HoldsRight}
use Rattle.ae_rules.specs.Uses.{statement_uses}
use Rattle.ae_semantics.specs.Places.{State}
use Rattle.ae_semantics.specs.Observations.{Seen, Notes}
use Rattle.ae_semantics.specs.Runs.{Where, Machine, Below}
use Rattle.ae_semantics.specs.Meaning.{one}
use Rattle.ae_soundness.specs.Whole.{StandsAt, BodiesKeep, is_calling}
use Rattle.ae_changes.specs.Changes.{RunChanges}

-- ---- bodies

-- how a group is used for a need
abbrev pub need_mode : Need → Mode
need_mode need_of.Exclusive = mode.GroupWhole
need_mode need_of.Shared = mode.GroupShared
need_mode need_of.Protected = mode.GroupWhole

-- what a method uses of its caller's: its locals are its own, and its groups are used as it needs them
abbrev pub needs_use : Definition → Uses
needs_use m (resource.Local x) = Some mode.Write
needs_use m (resource.Group g) = given (need_for m.needs g) None (λ (n : GroupNeed). Some (need_mode n.need))

-- with less fuel each method's body, from a state that stands where it begins, changes of its caller's groups only
-- those that it needs for itself, and prints only where it needs `io` so
abbrev pub BodiesChange : {W : Type 0} → Code → Option (Below W) → Type 0
BodiesChange p None = Unit {0}
BodiesChange p (Some run) = (number : ℕ) (m : Definition) → method_at p number ≡ Some m → (here : Where)
    → here.method ≡ m → here.context ≡ start p m → (s : State) (n : Notes _) → StandsAt p (start p m) s
    → RunChanges (start p m) (needs_use m) ⊥ s n (run.block here m.body s n)

-- ---- calls

-- with this fuel each judged statement that calls changes only what it writes, and no result
abbrev pub CallsChange : {W : Type 0} → Machine W → Option (Below W) → Type 0
CallsChange m below = (here : Where) (at : Spot) (a : Action) (d : Context) (s : State) (n : Notes _)
    → is_calling a ≡ true → Judges m.code here.method at a here.context d → HoldsRight here.context
    → StandsAt m.code here.context s
    → RunChanges here.context (statement_uses m.code here.method a here.context) (Unit {0}) s n
    (one m below here at a s n)

-- With these machines, where bodies are left as they are judged to end and change only what they need, each statement
-- that calls changes only what it writes.
abbrev pub CallsChangeBy : Type 0 → Type 0
CallsChangeBy W = (m : Machine W) → WellShaped m.code → ThisIsFree m.code → TableHolds m.code
    → (below : Option (Below W)) → BodiesKeep m.code below → BodiesChange m.code below → CallsChange m below

-- so it is with machines that note nothing more, and with those that list what they were answered
abbrev pub CallsChangeAsUsed : Type 0
CallsChangeAsUsed = CallsChangeBy ⊤ × CallsChangeBy (List Seen)
