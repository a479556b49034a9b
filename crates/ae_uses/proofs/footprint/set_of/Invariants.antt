use Rattle.std.proofs.Common.{◌≡◌, ℕ, ◌||◌, nat_eq, drop}
use Rattle.std.specs.HashSet.{contains}
use Rattle.ae_rules.specs.Lookups.{has_name}
use Rattle.ae_uses.proofs.footprint.set_of.Given as goal

-- a name is one of all, if it is in the set or among the rest
abbrev pub invariant-loop-name : goal.invariant-loop-name
invariant-loop-name l = (x : ℕ)
    → (contains nat_eq l.set x || has_name (drop l.name-index l.names) x) ≡ has_name l.names x
