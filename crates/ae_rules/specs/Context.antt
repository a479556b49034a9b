-- What is known at a statement: each visible local with its form and what is held of it, and each known group with its permission.
use Rattle.std.specs.Prelude.{ℕ, zero, suc, nat_eq, Bool, true, false, ◌&&◌, ◌||◌, not, if◌then◌else◌, length}
use Rattle.std.specs.Prelude.{Option, None, Some, is_some, option_map, ⊤}
use Rattle.ae_text.specs.declared.refusal.Spot.{Spot}
use Rattle.ae_text.specs.declared.refusal.Rule.TheVariants as rule
use Rattle.ae_tree.specs.declared.form.Perm.{Perm}
use Rattle.ae_tree.specs.declared.form.Perm.TheVariants as perm
use Rattle.ae_tree.specs.declared.form.Form.{Form}
use Rattle.ae_tree.specs.declared.form.Form.TheVariants as f
use Rattle.ae_tree.specs.Plain.{Code}
use Rattle.ae_rules.specs.declared.held.Held.{Held}
use Rattle.ae_rules.specs.declared.held.Held.TheVariants as held
use Rattle.ae_rules.specs.Verdict.{Verdict, Broken, fine, given}
use Rattle.ae_rules.specs.Groups.{Groups, known, group_access}

-- a local; one that stays is a parameter that is never assigned
pub record Local : Type 0 where
  pub form : Form
  pub held : Held
  pub stays : Bool

pub record Context : Type 0 where
  pub local : ℕ → Option Local
  pub group : Groups

-- ---- what is held

-- what an object with this permission is held by
abbrev pub held_by : Perm → Held
held_by perm.Unique = held.Unique
held_by perm.Immutable = held.Immutable
held_by perm.Lent = held.Lent
held_by (perm.Shared g) = held.Shared g

-- a form holds its permission; numbers and booleans hold nothing
abbrev pub held_of : Form → Held
held_of f.Int = held.None
held_of f.Bool = held.None
held_of (f.Object q k) = held_by q

abbrev pub same_held : Held → Held → Bool
same_held held.Unique held.Unique = true
same_held (held.Split m) (held.Split n) = nat_eq m n
same_held held.Immutable held.Immutable = true
same_held held.Lent held.Lent = true
same_held (held.Shared g) (held.Shared h) = nat_eq g h
same_held (held.Inner g) (held.Inner h) = nat_eq g h
same_held held.None held.None = true
same_held _ _ = false

-- nothing is held
abbrev pub holds_nothing : Held → Bool
holds_nothing h = same_held held.None h

-- all of an object is held, and by no one else
abbrev pub is_held_alone : Held → Bool
is_held_alone h = same_held held.Unique h

-- what is held of a local; nothing, where it is not visible
abbrev pub held_in : Context → ℕ → Held
held_in c x = given (c.local x) held.None (λ (l : Local). l.held)

-- ---- names

-- locals and groups share their names
abbrev pub is_visible : Context → ℕ → Bool
is_visible c x = is_some (c.local x) || known c.group x

-- each number from 0 up to a bound passes
abbrev pub all_below : ℕ → (ℕ → Bool) → Bool
all_below zero test = true
all_below (suc n) test = test n && all_below n test

-- each name of a program passes; names are the numbers of its spellings
abbrev pub each_name : Code → (ℕ → Bool) → Bool
each_name p = all_below (length p.names)

-- ---- changes

abbrev pub with_local : ℕ → Form → Context → Context
with_local x form c = record c {
  local = λ y. if nat_eq x y then Some (record { form = form; held = held_of form; stays = false }) else c.local y;
}

-- another thing is held of this local
abbrev pub with_held : ℕ → Held → Context → Context
with_held x h c = record c {
  local = λ y. if nat_eq x y then option_map (λ (l : Local). record l { held = h })
      (c.local y) else c.local y;
}

-- a name that is moved holds nothing any more
abbrev pub with_name_moved : Option ℕ → Context → Context
with_name_moved None c = c
with_name_moved (Some x) c = with_held x held.None c

-- a block ends: what is held of the locals from outside stays, and the groups are as outside
abbrev pub closed : Context → Context → Context
closed outside inside = record {
  local = λ x. if is_some (outside.local x) then inside.local x else None;
  group =
      outside.group;
}

-- each local from outside holds the same in both
abbrev pub hold_alike : Code → Context → Context → Context → Bool
hold_alike p outside c d = each_name p (λ x. not (is_some (outside.local x)) || same_held (held_in c x) (held_in d x))

-- ---- access

-- an object of which this is held may be reached: something is held, and the group that it is in is open
abbrev pub access : Context → Spot → Held → Verdict ⊤
access c at held.Unique = fine
access c at (held.Split n) = fine
access c at held.Immutable = fine
access c at held.Lent = fine
access c at (held.Shared g) = group_access c.group g at
access c at (held.Inner g) = group_access c.group g at
access c at held.None = Broken rule.NoPermission at

-- what is held lets the object be changed
abbrev pub may_change : Held → Bool
may_change held.Unique = true
may_change (held.Split n) = false
may_change held.Immutable = false
may_change held.Lent = false
may_change (held.Shared g) = true
may_change (held.Inner g) = true
may_change held.None = false
