-- Groups by name as a function from names, and how it changes.
use Rattle.std.specs.Prelude.{◌≡◌, ℕ, nat_eq, true, if◌then◌else◌, List, Option, None, Some, Result, Ok, Err}
use Rattle.std.specs.Prelude.{All, slice_index_or}
use Rattle.std.specs.HashSet.{HashSet, contains}
use Rattle.ae_text.specs.declared.refusal.Refusal.{Refusal}
use Rattle.ae_text.specs.declared.refusal.Deny.{Deny}
use Rattle.ae_text.specs.declared.refusal.Deny.TheVariants as deny
use Rattle.ae_tree.specs.declared.tree.NameAt.{NameAt}
use Rattle.ae_tree.specs.declared.tree.GroupNeed.{GroupNeed}
use Rattle.ae_rules.specs.declared.held.GroupPerm.{GroupPerm}
use Rattle.ae_rules.specs.declared.held.GroupPerm.TheVariants as group
use Rattle.ae_rules.specs.Verdict.{given}
use Rattle.ae_rules.specs.Lookups.{Names, has_name}
use Rattle.ae_rules.specs.Groups.{Groups, group_is, known, held_back}
use Rattle.ae_rules.specs.Judges.{permission_needed, need_for}
use Rattle.ae_groups.specs.declared.context.GroupContext.{GroupContext}

-- the known groups of a context, each with its permission
abbrev pub known_groups : GroupContext → Groups
known_groups c = λ g. slice_index_or c.perms.items g None

-- no group is known
abbrev pub no_groups : Groups
no_groups = λ g. None

-- one group is known with this permission, or is not known
abbrev pub with_permission : ℕ → Option GroupPerm → Groups → Groups
with_permission g q gs = λ h. if nat_eq g h then q else gs h

-- every shared group is held back
abbrev pub every_held_back : Groups → Groups
every_held_back gs = λ g. held_back (gs g)

-- each group of a list is known
abbrev pub AreKnown : Groups → List NameAt → Type 0
AreKnown gs = All (λ (x : NameAt). known gs x.name ≡ true)

-- each group of a list is shared
abbrev pub AreShared : Groups → List NameAt → Type 0
AreShared gs = All (λ (x : NameAt). group_is group.Shared gs x.name ≡ true)

-- the permission of a known group at the start of a method with these needs
abbrev pub needed : List GroupNeed → ℕ → GroupPerm
needed ns g = given (need_for ns g) group.None (λ (n : GroupNeed). permission_needed n.need)

-- more groups are known, each with the permission of its need
abbrev pub with_needed : List GroupNeed → List ℕ → Groups → Groups
with_needed ns xs gs = λ g. if has_name xs g then Some (needed ns g) else gs g

-- a set of names
abbrev pub set_of_names : {S : Type 0} → HashSet ℕ S → Names
set_of_names set x = contains nat_eq set x

-- an answer that is never for want of memory
abbrev pub refused : Result (Unit {0}) Refusal → Result (Unit {0}) Deny
refused (Ok u) = Ok u
refused (Err r) = Err (deny.Refused r)
