-- What a judged statement changes: only what it uses so that nothing else uses it meanwhile.
use Rattle.std.specs.Prelude.{◌≡◌, ◌⊎◌, ℕ, Bool, true, false, List, Option, None, Some, is_some, ⊤}
use Rattle.ae_text.specs.declared.refusal.Spot.{Spot}
use Rattle.ae_tree.specs.Names.{io}
use Rattle.ae_tree.specs.Plain.{Action}
use Rattle.ae_tree.specs.WellShaped.{HasField, IsNoReturn}
use Rattle.ae_rules.specs.declared.uses.Resource.TheVariants as resource
use Rattle.ae_rules.specs.Edges.{Uses}
use Rattle.ae_rules.specs.Context.{Context}
use Rattle.ae_rules.specs.Judges.{Judges}
use Rattle.ae_rules.specs.BlockLaws.{HoldsRight}
use Rattle.ae_rules.specs.Uses.{statement_uses}
use Rattle.ae_semantics.specs.Contexts.{shuts_out}
use Rattle.ae_semantics.specs.Places.{State, As}
use Rattle.ae_semantics.specs.Observations.{Seen, Notes}
use Rattle.ae_semantics.specs.Runs.{Run, Went, Ends, Stops, Where, Machine, Below}
use Rattle.ae_semantics.specs.Meaning.{one}
use Rattle.ae_soundness.specs.Fits.{FieldsHaveMembers, FitsContext}
use Rattle.ae_soundness.specs.Laws.{is_without_calls}

-- ---- what is left as it is

-- the members of the group stand under this name: it is the group's own, or another name of the group
abbrev pub GoesBy : State → ℕ → ℕ → Type 0
GoesBy s r g = (g ≡ r) ⊎ (s.groups g ≡ Some (As r))

-- no group whose members stand under this name is written
abbrev pub LeavesGroup : Uses → State → ℕ → Type 0
LeavesGroup u s r = (g : ℕ) → GoesBy s r g → shuts_out (u (resource.Group g)) ≡ false

-- it is as before, or it was not visible and is gone
abbrev pub IsAsBefore : {A : Type 0} → Bool → Option A → Option A → Type 0
IsAsBefore true old new = new ≡ old
IsAsBefore false old new = (new ≡ old) ⊎ (new ≡ None)

-- Of the second state only what is written differs from the first: each other local that was visible is as before, and
-- what was not visible is as before or gone; so is what stands under the name of a group; and no name is new.
pub record ChangesAsUsed (c : Context) (u : Uses) (s t : State) : Type 0 where
  pub local : (x : ℕ) → shuts_out (u (resource.Local x)) ≡ false
      → IsAsBefore (is_some (c.local x)) (s.locals x) (t.locals x)
  pub group : (r : ℕ) → LeavesGroup u s r → t.groups r ≡ s.groups r
  pub name : (g r : ℕ) → t.groups g ≡ Some (As r) → s.groups g ≡ Some (As r)

-- what was printed is as before, unless `io` is used
abbrev pub KeepsLog : {W : Type 0} → Uses → Notes W → Notes W → Type 0
KeepsLog u n k = shuts_out (u (resource.Group io)) ≡ false → k.log ≡ n.log

-- A run from here changes only what is written, and the result only where this does not hold. Up to an ending nothing
-- else is printed either.
abbrev pub RunChanges : {W : Type 0} → Context → Uses → Type 0 → State → Notes W → Run W → Type 0
RunChanges c u still s n (Went t k) = ChangesAsUsed c u s t × KeepsLog u n k × (still → t.result ≡ s.result)
RunChanges c u still s n (Ends ending k) = KeepsLog u n k
RunChanges c u still s n (Stops k) = KeepsLog u n k

-- ---- statements without blocks and calls

-- With these machines a judged statement that has no block and calls no method, from a state that fits, changes only
-- what it writes, and the result only where it is a `return`. Of each local is held what may be.
abbrev pub ActsChangeBy : Type 0 → Type 0
ActsChangeBy W = (m : Machine W) (below : Option (Below W)) (here : Where) (at : Spot) (a : Action) (d : Context)
    (s : State) (n : Notes W) → FieldsHaveMembers m.code → is_without_calls a ≡ true → HasField a
    → Judges m.code here.method at a here.context d → HoldsRight here.context → FitsContext m.code here.context s
    → RunChanges here.context (statement_uses m.code here.method a here.context) (IsNoReturn a) s n
    (one m below here at a s n)

-- so it is with machines that note nothing more, and with those that list what they were answered
abbrev pub ActsChangeAsUsed : Type 0
ActsChangeAsUsed = ActsChangeBy ⊤ × ActsChangeBy (List Seen)
