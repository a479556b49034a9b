-- The names that are used, each once, and their uses.
use Rattle.std.specs.Prelude.{◌↔◌, ℕ, List, ◌++◌, Contains, if◌then◌else◌}
use Rattle.ae_rules.specs.declared.uses.Resource.TheVariants as resource
use Rattle.ae_rules.specs.declared.uses.Mode.TheVariants as mode
use Rattle.ae_rules.specs.declared.uses.Use.{Use}
use Rattle.ae_rules.specs.Edges.{IsRising}
use Rattle.ae_rules.specs.Lookups.{Names}

-- the names of both lists, each once and in rising order
pub record AreJoined (xs ys zs : List ℕ) : Type 0 where
  pub in_order : IsRising zs
  pub same : (x : ℕ) → Contains zs x ↔ Contains (xs ++ ys) x

-- a local, which is written if it is one of these, and else read
abbrev pub local_as : Names → ℕ → Use
local_as written x = record { what = resource.Local x; mode = if written x then mode.Write else mode.Read }

-- a group, which is used as a whole if it is one of these, and else together with others
abbrev pub group_as : Names → ℕ → Use
group_as whole g = record { what = resource.Group g; mode = if whole g then mode.GroupWhole else mode.GroupShared }
