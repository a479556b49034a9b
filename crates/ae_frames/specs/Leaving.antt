-- A call that is left, by what was kept of its caller.
use Rattle.std.specs.Prelude.{◌≡◌, ℕ, Bool, true, false, List, Option, None, Some}
use Rattle.ae_tree.specs.Plain.{Code, Invocation}
use Rattle.ae_rules.specs.Lookups.{has_name}
use Rattle.ae_semantics.specs.Places.{Fine, Group, Here, Away, As, State}
use Rattle.ae_semantics.specs.Runs.{Where}
use Rattle.ae_semantics.specs.Calls.{leave}
use Rattle.ae_values.specs.declared.env.Env.{Env}
use Rattle.ae_values.specs.Environments.{running_binds, state_in}
use Rattle.ae_values.specs.Shapes.{shapes}
use Rattle.ae_reads.specs.Answers.{one_name}
use Rattle.ae_semantics.specs.Values.{Val}
use Rattle.ae_frames.specs.Entries.{EnteredCall, entered, frame_of, need_names, names_apart, names_entered}
use Rattle.ae_frames.specs.Granting.{LentGroup}
use Rattle.ae_frames.specs.Kept.{ComesBack, IsKept, IsLeftOf, brought_back}

-- the group stands under another name
abbrev pub is_another : Option Group → Bool
is_another None = false
is_another (Some (Here st)) = false
is_another (Some (Away cell)) = false
is_another (Some (As h)) = true

-- Of a group of which there was nothing there is nothing; what was another name is that name, and what was none is
-- none.
abbrev pub IsKeptAs : Option Group → Option Group → Type 0
IsKeptAs None a = a ≡ None
IsKeptAs (Some (Here st)) a = is_another a ≡ false
IsKeptAs (Some (Away cell)) a = is_another a ≡ false
IsKeptAs (Some (As h)) a = a ≡ Some (As h)

-- the groups that the method needed are at its end as at its beginning, but for their members
abbrev pub GroupsStay : EnteredCall → State → Type 0
GroupsStay x after = (g : ℕ) → has_name (need_names x.callee.method.needs) g ≡ true
    → IsKeptAs (x.state.groups g) (after.groups g)

-- What comes back by what was kept, over what is left of the caller, is what the meaning leaves.
abbrev pub CallsLeaveAlike : Type 0
CallsLeaveAlike = (p : Code) (here : Where) (i : Invocation) (before after s : State) (x : EnteredCall) (back : List ComesBack)
    (lent : List LentGroup) (gone : List ℕ) → entered p i before ≡ Fine x → IsKept x i back lent gone
    → IsLeftOf back lent gone before s → GroupsStay x after
    → brought_back back lent gone after s ≡ leave (frame_of p here x) i before after

-- Where the names of a body have at its end the shapes with which it began, the groups that were needed stay.
abbrev pub NeededGroupsStay : Type 0
NeededGroupsStay = (p : Code) (i : Invocation) (before : State) (x : EnteredCall) (e : Env) (r : Option Val)
    → entered p i before ≡ Fine x → names_apart x.callee.method ≡ true
    → shapes (running_binds e) ≡ names_entered x → GroupsStay x (state_in one_name r e)
