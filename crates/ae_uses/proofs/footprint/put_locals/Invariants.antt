use Rattle.std.proofs.Common.{◌≡◌, ◌++◌, nat_eq, map, take}
use Rattle.std.specs.HashSet.{contains}
use Rattle.ae_uses.specs.Joined.{local_as}
use Rattle.ae_uses.proofs.footprint.put_locals.Given as goal

-- the uses of the names so far
abbrev pub invariant-loop-name : goal.invariant-loop-name
invariant-loop-name l =
    l.uses ≡ l.initial.uses ++ map (local_as (contains nat_eq l.written)) (take l.name-index l.names)
