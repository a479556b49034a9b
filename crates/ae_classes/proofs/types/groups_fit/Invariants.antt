use Rattle.std.proofs.Common.{◌≡◌, drop}
use Rattle.ae_rules.specs.Verdict.{each}
use Rattle.ae_rules.specs.Types.{is_group}
use Rattle.ae_classes.proofs.types.groups_fit.Given as goal

abbrev pub invariant-loop-group : goal.invariant-loop-group
invariant-loop-group g l = each (is_group (g.G.KnownGroups.known l.known)) l.groups
    ≡ each (is_group (g.G.KnownGroups.known l.known)) (drop l.group-index l.groups)
