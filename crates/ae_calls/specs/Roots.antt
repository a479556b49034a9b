-- The roots of the arguments of a call so far, as plain data.
use Rattle.ae_rules.specs.Calls.{Roots as RootsThere}
use Rattle.ae_groups.specs.Contexts.{set_of_names}
use Rattle.ae_calls.specs.declared.roots.Roots.{Roots}

-- the roots so far
abbrev pub roots_of : Roots → RootsThere
roots_of r = record { used = set_of_names r.used; alone = set_of_names r.alone }
