use Rattle.std.proofs.Common.{◌≡◌, ◌++◌, nat_eq, map, take}
use Rattle.std.specs.HashSet.{contains}
use Rattle.ae_uses.specs.Joined.{group_as}
use Rattle.ae_uses.proofs.footprint.put_groups.Given as goal

-- the uses of the names so far
abbrev pub invariant-loop-name : goal.invariant-loop-name
invariant-loop-name l =
    l.uses ≡ l.initial.uses ++ map (group_as (contains nat_eq l.whole)) (take l.name-index l.names)
