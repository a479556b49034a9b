-- A call that is entered, wherever it stands, and the names that its body begins with.
use Rattle.std.specs.Prelude.{◌≡◌, ℕ, ◌+◌, Bool, true, ◌&&◌, not, List, [], ◌∷◌, ◌++◌, map, zip, filter_map, option_map}
use Rattle.std.specs.Prelude.{Option, None, Some}
use Rattle.ae_tree.specs.declared.tree.GroupNeed.{GroupNeed}
use Rattle.ae_tree.specs.Plain.{Definition, Code, Invocation}
use Rattle.ae_rules.specs.Lookups.{has_name, method_at}
use Rattle.ae_rules.specs.Calls.{Callee, givens}
use Rattle.ae_rules.specs.Judges.{start}
use Rattle.ae_rules.specs.Instances.{param_names}
use Rattle.ae_semantics.specs.Places.{Outcome, Fine, ◌>>=◌, Group, Here, Away, As, State}
use Rattle.ae_semantics.specs.Runs.{Where}
use Rattle.ae_semantics.specs.Calls.{Argument, Taker, CallFrame, called_method, each_argument, takers, taken, enter}
use Rattle.ae_semantics.specs.Calls.{groups_needed, group_given}
use Rattle.ae_values.specs.Shapes.{NameShape, OfLocal, OfGroup}

-- an entered call: the method, the caller's groups for its own, its parameters, the arguments, and what its body
-- begins with
pub record EnteredCall : Type 0 where
  pub callee : Callee
  pub groups : ℕ → ℕ
  pub takers : List Taker
  pub arguments : List Argument
  pub state : State

-- the entered call with these arguments
abbrev pub entered_call : Code → State → Callee → (ℕ → ℕ) → List Argument → EnteredCall
entered_call p s c groups xs = record {
  callee = c;
  groups = groups;
  takers = takers p c.method;
  arguments = xs;
  state = record {
    locals = taken (takers p c.method) xs;
    groups =
        groups_needed groups s c.method.needs;
    result = None;
  };
}

-- the first half of a call, wherever it stands
abbrev pub entered : Code → Invocation → State → Outcome EnteredCall
entered p i s = called_method p s i >>= λ c. each_argument p s (givens i)
    >>= λ xs. Fine (entered_call p s c (group_given s c i) xs)

-- the entered call where it stands
abbrev pub frame_of : Code → Where → EnteredCall → CallFrame
frame_of p here x = record {
  callee = x.callee;
  groups = x.groups;
  takers = x.takers;
  arguments = x.arguments;
  here = record {
    number = x.callee.number;
    method = x.callee.method;
    depth = here.depth + 1;
    path = here.path;
    context =
        start p x.callee.method;
    inside = here.inside;
  };
  state = x.state;
}

-- each call is entered so, wherever it stands
abbrev pub CallsEnterAlike : Type 0
CallsEnterAlike = (p : Code) (here : Where) (i : Invocation) (s : State)
    → enter p here i s ≡ (entered p i s >>= λ x. Fine (frame_of p here x))

-- ---- the names of a body

-- no name stands twice
abbrev pub all_differ : List ℕ → Bool
all_differ [] = true
all_differ (x ∷ xs) = not (has_name xs x) && all_differ xs

-- the groups that a method needs, by name
abbrev pub need_names : List GroupNeed → List ℕ
need_names ns = map (λ (n : GroupNeed). n.group.name) ns

-- the receiver, the parameters and the groups needed all have names of their own
abbrev pub names_apart : Definition → Bool
names_apart m = all_differ (param_names m ++ need_names m.needs)

-- the same of each method of a program
abbrev pub NamesApart : Code → Type 0
NamesApart p = (n : ℕ) (m : Definition) → method_at p n ≡ Some m → names_apart m ≡ true

-- what the name of a group stands for, where there is something of the group
abbrev pub group_shape : Option Group → Option NameShape
group_shape None = None
group_shape (Some (Here st)) = Some (OfGroup None)
group_shape (Some (Away cell)) = Some (OfGroup None)
group_shape (Some (As h)) = Some (OfGroup (Some h))

-- a parameter with the form in which it is declared
abbrev pub param_shape : Taker × Argument → ℕ × NameShape
param_shape x = (x.0.0, OfLocal x.0.1.form)

-- a group that is needed, where there is something of it
abbrev pub need_shape : (ℕ → Option Group) → GroupNeed → Option (ℕ × NameShape)
need_shape groups n = option_map (λ (x : NameShape). (n.group.name, x)) (group_shape (groups n.group.name))

-- the names with which a body begins: the parameters in order, and then the groups that are needed
abbrev pub names_entered : EnteredCall → List (ℕ × NameShape)
names_entered x = map param_shape (zip x.takers x.arguments)
    ++ filter_map (need_shape x.state.groups) x.callee.method.needs
