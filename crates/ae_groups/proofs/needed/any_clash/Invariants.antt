use Rattle.std.proofs.Common.{◌≡◌, ◌||◌, drop}
use Rattle.std.specs.List.{list_any}
use Rattle.ae_rules.specs.Groups.{any_clash}
use Rattle.ae_groups.specs.Needed.{needed_of, hits}
use Rattle.ae_groups.proofs.needed.any_clash.Given as goal

-- the rest decides, with the needs so far
abbrev pub invariant-loop-need : goal.invariant-loop-need
invariant-loop-need l = any_clash l.needs
    ≡ (list_any (hits (needed_of l.earlier)) (drop l.need-index l.needs) || any_clash (drop l.need-index l.needs))
