-- What is known of groups: which are known, with which permission, what the rules ask of them, and what is known of them then.
use Rattle.std.specs.Prelude.{ℕ, nat_eq, Bool, true, false, ◌&&◌, ◌||◌, not, if◌then◌else◌, List, [], ◌∷◌, Option}
use Rattle.std.specs.Prelude.{None, Some, is_some, ⊤}
use Rattle.std.specs.List.{list_any}
use Rattle.ae_text.specs.declared.refusal.Spot.{Spot}
use Rattle.ae_text.specs.declared.refusal.Rule.TheVariants as rule
use Rattle.ae_tree.specs.declared.tree.NameAt.{NameAt}
use Rattle.ae_tree.specs.declared.tree.Need.{Need}
use Rattle.ae_tree.specs.declared.tree.Need.TheVariants as need_of
use Rattle.ae_tree.specs.declared.tree.GroupNeed.{GroupNeed}
use Rattle.ae_tree.specs.Form.{bare_names}
use Rattle.ae_rules.specs.declared.held.GroupPerm.{GroupPerm}
use Rattle.ae_rules.specs.declared.held.GroupPerm.TheVariants as group
use Rattle.ae_rules.specs.Verdict.{Verdict, Holds, ◌>>◌, fine, require, each, in_turn, given}
use Rattle.ae_rules.specs.Lookups.{Names, has_name}
use Rattle.ae_rules.specs.Table.{no_names, and_also}

-- the known groups, each with its permission
abbrev pub Groups : Type 0
Groups = ℕ → Option GroupPerm

abbrev pub same_group_perm : GroupPerm → GroupPerm → Bool
same_group_perm group.Exclusive group.Exclusive = true
same_group_perm group.Shared group.Shared = true
same_group_perm group.Protected group.Protected = true
same_group_perm group.HeldBack group.HeldBack = true
same_group_perm group.None group.None = true
same_group_perm _ _ = false

-- the group is known, with this permission
abbrev pub group_is : GroupPerm → Groups → ℕ → Bool
group_is q gs g = given (gs g) false (same_group_perm q)

-- the members of the group may be reached
abbrev pub opens : Groups → ℕ → Bool
opens gs g = group_is group.Exclusive gs g || group_is group.Protected gs g

-- the names of the known groups
abbrev pub known : Groups → Names
known gs g = is_some (gs g)

-- a member of the group, or its log, is reached
abbrev pub group_access : Groups → ℕ → Spot → Verdict ⊤
group_access gs g at = require (opens gs g) rule.NeedsGroup at

-- ---- the needs of a call

-- a need, of an actual group
abbrev pub Wanted : Type 0
Wanted = Need × ℕ

abbrev pub wanted_need : (ℕ → ℕ) → GroupNeed → Wanted
wanted_need new n = (n.need, new n.group.name)

abbrev pub are_shared : Need → Need → Bool
are_shared need_of.Shared need_of.Shared = true
are_shared _ _ = false

-- the same group, and not both shared
abbrev pub clash : Wanted → Wanted → Bool
clash m n = nat_eq m.1 n.1 && not (are_shared m.0 n.0)

abbrev pub any_clash : List Wanted → Bool
any_clash [] = false
any_clash (n ∷ ns) = list_any (clash n) ns || any_clash ns

-- a need by the permission of its group
abbrev pub need_met : Groups → Spot → Wanted → Verdict ⊤
need_met gs at (need_of.Exclusive, g) = require (group_is group.Exclusive gs g) rule.NotExclusive at
need_met gs at (need_of.Shared, g) =
    require (not (group_is group.HeldBack gs g)) rule.NestedAtomic at >>
    require (group_is group.Shared gs g) rule.NotShared at
need_met gs at (need_of.Protected, g) = group_access gs g at

-- no group for two needs that are not both shared, and then each need
abbrev pub needs_met : Groups → Spot → List Wanted → Verdict ⊤
needs_met gs at ns = require (not (any_clash ns)) rule.GroupTwice at >> each (need_met gs at) ns

-- ---- a group that is declared, and its end

abbrev pub with_group : ℕ → GroupPerm → Groups → Groups
with_group g q gs = λ h. if nat_eq g h then Some q else gs h

-- a group that was not known; then it is exclusive
abbrev pub declare : NameAt → Groups → Verdict Groups
declare g gs = require (not (known gs g.name)) rule.DuplicateLocal g.at >> Holds (with_group g.name group.Exclusive gs)

-- all but these
abbrev pub without : Names → Groups → Groups
without names gs = λ g. if names g then None else gs g

-- at a block's end its groups are known no more
abbrev pub forget : List ℕ → Groups → Groups
forget xs gs = without (has_name xs) gs

-- ---- split blocks

-- a group of a split list is known, new in the list, and exclusive
abbrev pub may_split : Groups → NameAt → Names → Verdict Names
may_split gs g earlier =
    require (known gs g.name) rule.UnknownGroup g.at >>
    require (not (earlier g.name)) rule.GroupTwice g.at >>
    require (group_is group.Exclusive gs g.name) rule.NotExclusive g.at >>
    Holds (and_also g.name earlier)

-- each group of a split list, in order
abbrev pub may_split_all : Groups → List NameAt → Verdict ⊤
may_split_all gs xs = in_turn (may_split gs) xs no_names >> fine

-- these with another permission
abbrev pub with_all : Names → GroupPerm → Groups → Groups
with_all names q gs = λ g. if names g then Some q else gs g

-- in a split block its groups are shared
abbrev pub shared_in : List NameAt → Groups → Groups
shared_in xs gs = with_all (has_name (bare_names xs)) group.Shared gs

-- at the end of a split block its groups are exclusive again
abbrev pub exclusive_again : List NameAt → Groups → Groups
exclusive_again xs gs = with_all (has_name (bare_names xs)) group.Exclusive gs

-- all is asked of the groups before, and then they are shared
abbrev pub enter_split : List NameAt → Groups → Verdict Groups
enter_split xs gs = may_split_all gs xs >> Holds (shared_in xs gs)

-- ---- atomic blocks

-- a group of an atomic block is known, not held back, and shared
abbrev pub may_lock : Groups → NameAt → Verdict ⊤
may_lock gs g =
    require (known gs g.name) rule.UnknownGroup g.at >>
    require (not (group_is group.HeldBack gs g.name)) rule.NestedAtomic g.at >>
    require (group_is group.Shared gs g.name) rule.NotShared g.at

abbrev pub held_back : Option GroupPerm → Option GroupPerm
held_back (Some group.Shared) = Some group.HeldBack
held_back q = q

-- in an atomic block its group is protected, and every other shared group is held back
abbrev pub while_others_held_back : ℕ → Groups → Groups
while_others_held_back g gs = λ h. if nat_eq g h then Some group.Protected else held_back (gs h)

-- all is asked of the groups before, and then one is protected
abbrev pub enter_atomic : NameAt → Groups → Verdict Groups
enter_atomic g gs = may_lock gs g >> Holds (while_others_held_back g.name gs)
