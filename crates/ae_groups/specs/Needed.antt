-- The groups of some needs, as plain data.
use Rattle.std.specs.Prelude.{Bool, if◌then◌else◌}
use Rattle.ae_rules.specs.Lookups.{Names}
use Rattle.ae_rules.specs.Table.{no_names, and_also}
use Rattle.ae_rules.specs.Groups.{Wanted, are_shared}
use Rattle.ae_groups.specs.declared.needed.NeededGroups.{NeededGroups}
use Rattle.ae_groups.specs.Contexts.{set_of_names}

-- the groups of some needs, and those of them that are not needed shared
pub record Needed : Type 0 where
  pub all : Names
  pub unshared : Names

abbrev pub needed_of : NeededGroups → Needed
needed_of n = record { all = set_of_names n.all; unshared = set_of_names n.unshared }

abbrev pub no_needs : Needed
no_needs = record { all = no_names; unshared = no_names }

-- with one need more
abbrev pub with_need : Wanted → Needed → Needed
with_need n before = record {
  all = and_also n.1 before.all;
  unshared =
      if are_shared n.0 n.0 then before.unshared else and_also n.1 before.unshared;
}

-- one of the needs is of this group, and not both are shared
abbrev pub hits : Needed → Wanted → Bool
hits before n = if are_shared n.0 n.0 then before.unshared n.1 else before.all n.1
