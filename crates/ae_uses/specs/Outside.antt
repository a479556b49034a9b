-- Which uses inside a block are seen from outside.
use Rattle.std.specs.Prelude.{ℕ, nat_eq, Bool, false, ◌&&◌, not, Option, None, Some, is_some}
use Rattle.ae_rules.specs.declared.uses.Resource.TheVariants as resource
use Rattle.ae_rules.specs.Verdict.{given}
use Rattle.ae_rules.specs.Groups.{known}
use Rattle.ae_rules.specs.Context.{Context}
use Rattle.ae_rules.specs.Edges.{Uses}
use Rattle.ae_rules.specs.Uses.{all_but}

-- the group is the one that is left out
abbrev pub is_that_group : Option ℕ → ℕ → Bool
is_that_group but g = given but false (λ h. nat_eq h g)

-- a local that is visible outside
abbrev pub is_local_outside : Context → ℕ → Bool
is_local_outside c x = is_some (c.local x)

-- a group that is known outside, and not left out
abbrev pub is_group_outside : Context → Option ℕ → ℕ → Bool
is_group_outside c but g = known c.group g && not (is_that_group but g)

-- uses without one group that may be left out
abbrev pub without_group : Option ℕ → Uses → Uses
without_group None u = u
without_group (Some g) u = all_but (resource.Group g) u
