-- A call in two halves: what goes into the method's body, and what comes back from it.
use Rattle.std.specs.Prelude.{ℕ, ◌+◌, nat_eq, Bool, ◌&&◌, not, if◌then◌else◌, List, [], ◌∷◌, zip, filter_map, Option}
use Rattle.std.specs.Prelude.{None, Some, option_map}
use Rattle.ae_tree.specs.declared.tree.GroupNeed.{GroupNeed}
use Rattle.ae_tree.specs.Plain.{Definition, Code, Expression, Read, Invocation}
use Rattle.ae_rules.specs.Verdict as rules
use Rattle.ae_rules.specs.Forms.{is_unique}
use Rattle.ae_rules.specs.Into.{name_into}
use Rattle.ae_rules.specs.Calls.{Callee, top_callee, callee_of, group_in, ParamSlot, slots, givens}
use Rattle.ae_rules.specs.Judges.{start}
use Rattle.ae_rules.specs.Instances.{param_names}
use Rattle.ae_semantics.specs.Values.{Val}
use Rattle.ae_semantics.specs.Places.{Outcome, Fine, ◌>>=◌, there, Group, As, Bound, State, name_of, with_bound}
use Rattle.ae_semantics.specs.Places.{with_store, Address, walk_to, write}
use Rattle.ae_semantics.specs.Expressions.{value}
use Rattle.ae_semantics.specs.Runs.{Where}

-- an argument's value, and the place that it was read from
pub record Argument : Type 0 where
  pub value : Val
  pub from : Option Address

-- the value of an argument, with the place of a path
abbrev pub argument : Code → State → Expression → Outcome Argument
argument p s (Read path) = walk_to p s path >>= λ x. Fine (record { value = x.value; from = Some x.at })
argument p s e = value p s e >>= λ v. Fine (record { value = v; from = None })

-- from left to right
abbrev pub each_argument : Code → State → List Expression → Outcome (List Argument)
each_argument p s [] = Fine []
each_argument p s (e ∷ es) = argument p s e >>= λ x. each_argument p s es >>= λ xs. Fine (x ∷ xs)

-- the method that is called on an object of the receiver's form, or one at the top
abbrev pub called_method : Code → State → Invocation → Outcome Callee
called_method p s i = rules.given i.on (there (top_callee p i.method.name))
    (λ path. walk_to p s path >>= λ x. there (callee_of p x.form i.method.name))

-- a parameter: its name, and its form in the method with whether the caller gets nothing back
abbrev pub Taker : Type 0
Taker = ℕ × ParamSlot

-- the receiver, where the method has one, and the parameters
abbrev pub takers : Code → Definition → List Taker
takers p m = zip (param_names m) (slots p (λ g. g) m)

-- each parameter with its argument's value
abbrev pub taken : List Taker → List Argument → ℕ → Option Bound
taken [] xs y = None
taken (t ∷ ts) [] y = None
taken (t ∷ ts) (x ∷ xs) y = if nat_eq t.0 y then Some (record { form = t.1.form; value = x.value }) else taken ts xs y

-- Each group of a need, as the caller has it. Where two needs are for one group of the caller, the members stand under the name of the first.
abbrev pub groups_needed : (ℕ → ℕ) → State → List GroupNeed → ℕ → Option Group
groups_needed groups s [] g = None
groups_needed groups s (n ∷ ns) g = if nat_eq n.group.name g then s.groups (groups g)
    else (if nat_eq (groups n.group.name) (groups g) then option_map (λ x. As n.group.name) (groups_needed groups s ns g) else groups_needed groups s ns g)

-- a call that is entered: the method, the caller's groups for its own, where its body stands, what the body begins with, and the arguments
pub record CallFrame : Type 0 where
  pub callee : Callee
  pub groups : ℕ → ℕ
  pub takers : List Taker
  pub arguments : List Argument
  pub here : Where
  pub state : State

-- the entered call with these arguments
abbrev pub frame : Code → Where → State → Callee → (ℕ → ℕ) → List Argument → CallFrame
frame p here s c groups xs =
    let ts : List Taker = takers p c.method in
    record {
      callee = c;
      groups = groups;
      takers = ts;
      arguments = xs;
      here = record {
        number = c.number;
        method = c.method;
        depth = here.depth + 1;
        path = here.path;
        context =
            start p c.method;
        inside = here.inside;
      };
      state = record { locals = taken ts xs; groups = groups_needed groups s c.method.needs; result = None };
    }

-- the caller's name for a group of the method, under which what there is of it stands
abbrev pub group_given : State → Callee → Invocation → ℕ → ℕ
group_given s c i g = name_of s (group_in c i.groups g)

-- the first half of a call
abbrev pub enter : Code → Where → Invocation → State → Outcome CallFrame
enter p here i s = called_method p s i >>= λ c. each_argument p s (givens i)
    >>= λ xs. Fine (frame p here s c (group_given s c i) xs)

-- ---- what comes back

-- names that were moved have no value
abbrev pub without_moved : List ℕ → State → State
without_moved [] s = s
without_moved (x ∷ xs) s = without_moved xs (with_bound x None s)

-- what the method left of a group; what stands under another name comes back under that one
abbrev pub group_back : ℕ → Option Group → State → State
group_back g (Some (As h)) s = s
group_back g c s = with_store g c s

-- the groups of the needs
abbrev pub groups_back : (ℕ → ℕ) → List GroupNeed → State → State → State
groups_back groups [] after s = s
groups_back groups (n ∷ ns) after s = groups_back groups ns after
    (group_back (groups n.group.name) (after.groups n.group.name) s)

-- a unique object comes back, unless it was given away
abbrev pub value_comes_back : ParamSlot → Bool
value_comes_back t = is_unique t.form && not t.away

-- what a parameter holds comes back to the place of its argument
abbrev pub put_back : Taker × Argument → State → State → Outcome State
put_back x after s = if value_comes_back x.0.1
    then rules.given x.1.from (Fine s) (λ at. there (after.locals x.0.0) >>= λ b. write s at b.value)
    else Fine s

-- what the parameters hold comes back, in their order
abbrev pub values_back : List (Taker × Argument) → State → State → Outcome State
values_back [] after s = Fine s
values_back (x ∷ xs) after s = put_back x after s >>= values_back xs after

-- the name that goes away with what a parameter is given
abbrev pub given_away : Taker × Expression → Option ℕ
given_away x = if x.0.1.away then name_into x.0.1.form x.1 else None

-- The second half of a call: names that were given away have no value, and groups and unique values come back to their places.
abbrev pub leave : CallFrame → Invocation → State → State → Outcome State
leave f i before after = values_back (zip f.takers f.arguments) after
    (groups_back f.groups f.callee.method.needs after
    (without_moved (filter_map given_away (zip f.takers (givens i))) before))
