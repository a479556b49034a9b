use Rattle.std.proofs.Common.{◌≡◌, drop}
use Rattle.ae_rules.specs.Lookups.{has_name}
use Rattle.ae_rules.specs.Table.{declares_groups, most_groups}
use Rattle.ae_classes.proofs.declarations.declares_groups.Given as goal

abbrev pub invariant-loop-group : goal.invariant-loop-group
invariant-loop-group l = declares_groups most_groups l.groups (has_name l.outer)
    ≡ declares_groups l.room (drop l.group-index l.groups) (has_name l.known)
