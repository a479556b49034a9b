use Rattle.std.proofs.Common.{◌≡◌, drop}
use Rattle.ae_rules.specs.Verdict.{in_turn}
use Rattle.ae_rules.specs.Table.{no_names}
use Rattle.ae_rules.specs.Groups.{may_split}
use Rattle.ae_groups.specs.Contexts.{known_groups, set_of_names}
use Rattle.ae_groups.proofs.context.GroupContext.may_split.Given as goal

-- the rest decides
abbrev pub invariant-loop-g : goal.invariant-loop-g
invariant-loop-g l = in_turn (may_split (known_groups l.self)) l.gs no_names
    ≡ in_turn (may_split (known_groups l.self)) (drop l.g-index l.gs) (set_of_names l.earlier)
