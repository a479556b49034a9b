-- A scope as the context that it stands for.
use Rattle.std.specs.Prelude.{◌≡◌, ℕ, nat_eq, Bool, if◌then◌else◌, List, [], None, Some, length}
use Rattle.ae_tree.specs.declared.form.Form.{Form}
use Rattle.ae_tree.specs.declared.tree.NameAt.{NameAt}
use Rattle.ae_rules.specs.declared.held.GroupPerm.{GroupPerm}
use Rattle.ae_rules.specs.Verdict.{Verdict, Holds, ◌>>◌}
use Rattle.ae_rules.specs.Groups.{with_group, held_back, may_lock, may_split_all}
use Rattle.ae_rules.specs.Context.{Context, held_of}
use Rattle.ae_rules.specs.Statements.{while_locked, while_split}
use Rattle.ae_groups.specs.Contexts.{known_groups, every_held_back}
use Rattle.ae_scope.specs.declared.scope.Scope.{Scope}
use Rattle.ae_scope.specs.Slots.{local_in}

abbrev pub context_of : Scope → Context
context_of s = record { local = local_in s.locals.items; group = known_groups s.groups }

-- nothing is known
abbrev pub nothing_known : Context
nothing_known = record { local = λ x. None; group = λ g. None }

-- a local more, which may be a parameter that stays
abbrev pub with_parameter : ℕ → Form → Bool → Context → Context
with_parameter x form stays c = record c {
  local =
      λ y. if nat_eq x y then Some (record { form = form; held = held_of form; stays = stays }) else c.local y;
}

-- a group more
abbrev pub with_known : ℕ → GroupPerm → Context → Context
with_known g q c = record c { group = with_group g q c.group }

-- one group is held back, where it is shared
abbrev pub with_held_back : ℕ → Context → Context
with_held_back g c = record c { group = λ h. if nat_eq g h then held_back (c.group h) else c.group h }

-- every shared group is held back
abbrev pub all_held_back : Context → Context
all_held_back c = record c { group = every_held_back c.group }

-- the groups of a list may be split, and then they are shared
abbrev pub enters_split : List NameAt → Context → Verdict Context
enters_split gs c = may_split_all c.group gs >> Holds (while_split gs c)

-- a group may be locked, and then it is protected, and every other shared group is held back
abbrev pub enters_atomic : NameAt → Context → Verdict Context
enters_atomic g c = may_lock c.group g >> Holds (while_locked g.name c)

-- nothing is known, was added or was changed, of a program with this many names
pub record Empty (names : ℕ) (s : Scope) : Type 0 where
  pub context : context_of s ≡ nothing_known
  pub locals : s.locals.items ≡ []
  pub trail : s.trail.items ≡ []
  pub group_trail : s.group_trail.items ≡ []
  pub table : length s.at.items ≡ names
  pub groups : length s.groups.perms.items ≡ names
