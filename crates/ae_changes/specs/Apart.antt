-- That groups which stand under one name may not be reached, so that a group that is not written is as before.
use Rattle.std.specs.Prelude.{◌≡◌, ℕ, ℤ, false, List, Some}
use Rattle.ae_text.specs.declared.refusal.Spot.{Spot}
use Rattle.ae_tree.specs.WellShaped.{WellShaped}
use Rattle.ae_tree.specs.Plain.{Action, Definition, Code, Invocation}
use Rattle.ae_rules.specs.declared.uses.Resource.TheVariants as resource
use Rattle.ae_rules.specs.Edges.{Uses}
use Rattle.ae_rules.specs.Verdict.{Holds}
use Rattle.ae_rules.specs.Table.{TableHolds}
use Rattle.ae_rules.specs.Groups.{opens}
use Rattle.ae_rules.specs.Context.{Context}
use Rattle.ae_rules.specs.Calls.{Callee, Called, judge_callee, judge_callee_with}
use Rattle.ae_rules.specs.Judges.{Judges, start}
use Rattle.ae_rules.specs.Uses.{statement_uses}
use Rattle.ae_semantics.specs.Contexts.{shuts_out}
use Rattle.ae_semantics.specs.Places.{State, As, Fine}
use Rattle.ae_semantics.specs.Runs.{Where}
use Rattle.ae_semantics.specs.Calls.{CallFrame, enter}
use Rattle.ae_semantics.specs.Means.{Start, run_start}
use Rattle.ae_soundness.specs.Fits.{FitsContext}
use Rattle.ae_changes.specs.Changes.{ChangesAsUsed}

-- where a group stands under the name of another, neither of them may be reached
abbrev pub NamesApart : Context → State → Type 0
NamesApart c s = (g r : ℕ) → s.groups g ≡ Some (As r) → (opens c.group g ≡ false) × (opens c.group r ≡ false)

-- each group that is not written is as before
abbrev pub GroupsStay : Uses → State → State → Type 0
GroupsStay u s t = (g : ℕ) → shuts_out (u (resource.Group g)) ≡ false → t.groups g ≡ s.groups g

-- Where names stand apart before a judged statement that changes only what it writes, each group that it does not write
-- is as before.
abbrev pub UnwrittenGroupsStay : Type 0
UnwrittenGroupsStay = (p : Code) (m : Definition) (at : Spot) (a : Action) (c d : Context) (s t : State)
    → Judges p m at a c d → FitsContext p c s → NamesApart c s → ChangesAsUsed c (statement_uses p m a c) s t
    → GroupsStay (statement_uses p m a c) s t

-- so they do after the statement
abbrev pub NamesStayApart : Type 0
NamesStayApart = (p : Code) (m : Definition) (at : Spot) (a : Action) (c d : Context) (s t : State)
    → Judges p m at a c d → FitsContext p c s → NamesApart c s → ChangesAsUsed c (statement_uses p m a c) s t
    → NamesApart d t

-- so they do where a judged call was entered from a state in which they do
abbrev pub CallsBeginApart : Type 0
CallsBeginApart = (p : Code) → WellShaped p → TableHolds p → (c : Context) (s : State) (here : Where) (i : Invocation)
    (k : Callee) (d : Called) (f : CallFrame) → FitsContext p c s → NamesApart c s
    → judge_callee p c i.on i.method ≡ Holds k → judge_callee_with p c i k ≡ Holds d → enter p here i s ≡ Fine f
    → NamesApart (start p k.method) f.state

-- so they do where a program begins
abbrev pub BeginningsAreApart : Type 0
BeginningsAreApart = (p : Code) (ints : List ℤ) (x : Start) → run_start p ints ≡ Some x
    → NamesApart x.here.context x.state
