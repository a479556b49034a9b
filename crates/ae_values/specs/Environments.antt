-- What is bound, as the meaning sees it: locals with their values, and groups that are here or whose cells have them.
use Rattle.std.specs.Prelude.{◌≡◌, ℕ, List, take, drop, Option, None, Some}
use Rattle.ae_rules.specs.Verdict.{given}
use Rattle.ae_semantics.specs.Values as meant_value
use Rattle.ae_semantics.specs.Places as meant
use Rattle.ae_semantics.specs.Places.{CellName, Group, Here, Away, As, State, with, with_bound, with_store, name_of}
use Rattle.ae_values.specs.declared.env.Env.{Env}
use Rattle.ae_values.specs.declared.env.Bind.{Bind}
use Rattle.ae_values.specs.declared.env.Bound.{Bound}
use Rattle.ae_values.specs.declared.env.Bound.TheVariants as bound
use Rattle.ae_values.specs.declared.env.Image.TheVariants as image
use Rattle.ae_values.specs.Binding.{bound_in, heads}
use Rattle.ae_values.specs.Shown.{shown}

-- the local that is bound, with the form of what it holds
abbrev pub local_bound : Bound → Option meant.Bound
local_bound (bound.Value form v) = Some (record { form = form; value = shown v })
local_bound (bound.Moved form) = None
local_bound (bound.Whole i) = None
local_bound (bound.Other g) = None
local_bound (bound.Cell n) = None
local_bound (bound.Pieces ps) = None

-- what there is of the group that is bound, where cells with these numbers have these names
abbrev pub group_bound : (ℕ → CellName) → Bound → Option Group
group_bound cells (bound.Value form v) = None
group_bound cells (bound.Moved form) = None
group_bound cells (bound.Whole (image.Store st)) = Some (Here st)
group_bound cells (bound.Whole (image.Log ps)) = None
group_bound cells (bound.Other g) = Some (As g)
group_bound cells (bound.Cell n) = Some (Away (cells n))
group_bound cells (bound.Pieces ps) = None

-- the locals among what is bound
abbrev pub locals_in : (ℕ → Option Bound) → ℕ → Option meant.Bound
locals_in binds x = given (binds x) None local_bound

-- the groups among what is bound
abbrev pub groups_in : (ℕ → CellName) → (ℕ → Option Bound) → ℕ → Option Group
groups_in cells binds x = given (binds x) None (group_bound cells)

-- the binds of the running call
abbrev pub running_binds : Env → List Bind
running_binds e = drop e.base e.binds.items

-- the binds of the calls that wait for it
abbrev pub waiting_binds : Env → List Bind
waiting_binds e = take e.base e.binds.items

-- what is bound under the names of the running call
abbrev pub bound_under : Env → ℕ → Option Bound
bound_under e = bound_in (running_binds e)

-- the same names are bound as before, each declared with the same permission, and what waits is the same
pub record HasNamesOf (old new : Env) : Type 0 where
  pub heads_stay : heads (running_binds new) ≡ heads (running_binds old)
  pub waiting_stays : waiting_binds new ≡ waiting_binds old

-- the state that the meaning sees in an environment, where cells with these numbers have these names, and this was
-- returned
abbrev pub state_in : (ℕ → CellName) → Option meant_value.Val → Env → State
state_in cells r e = record { locals = locals_in (bound_under e); groups = groups_in cells (bound_under e); result = r }

-- what is bound anew, or no more, under one name changes the locals and the groups under that name alone
pub record ChangeOneName (n : ℕ) (b : Option Bound) (binds : ℕ → Option Bound) : Type 0 where
  pub locals : locals_in (with n b binds) ≡ with n (given b None local_bound) (locals_in binds)
  pub groups : (cells : ℕ → CellName)
      → groups_in cells (with n b binds) ≡ with n (given b None (group_bound cells)) (groups_in cells binds)

-- each change of what is bound is one of locals and groups
abbrev pub BindsChangeOneName : Type 0
BindsChangeOneName = (n : ℕ) (b : Option Bound) (binds : ℕ → Option Bound) → ChangeOneName n b binds

-- what is bound anew under one name, where no group is bound before and after, changes that local of the state
abbrev pub LocalsChange : Type 0
LocalsChange = (cells : ℕ → CellName) (r : Option meant_value.Val) (e f : Env) (x : ℕ) (b : Option Bound)
    → bound_under f ≡ with x b (bound_under e)
    → groups_in cells (bound_under e) x ≡ None
    → given b None (group_bound cells) ≡ None
    → state_in cells r f ≡ with_bound x (given b None local_bound) (state_in cells r e)

-- what is bound anew under the name that has a group, where no local is bound before and after, changes that group
abbrev pub GroupsChange : Type 0
GroupsChange = (cells : ℕ → CellName) (r : Option meant_value.Val) (e f : Env) (g : ℕ) (b : Option Bound)
    → bound_under f ≡ with (name_of (state_in cells r e) g) b (bound_under e)
    → locals_in (bound_under e) (name_of (state_in cells r e) g) ≡ None
    → given b None local_bound ≡ None
    → state_in cells r f ≡ with_store g (given b None (group_bound cells)) (state_in cells r e)
