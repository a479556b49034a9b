use Rattle.std.proofs.Common.{◌≡◌, drop}
use Rattle.ae_rules.specs.Verdict.{each}
use Rattle.ae_rules.specs.Groups.{need_met, needs_met}
use Rattle.ae_groups.specs.Contexts.{known_groups}
use Rattle.ae_groups.proofs.context.GroupContext.call.Given as goal

-- the rest decides
abbrev pub invariant-loop-need : goal.invariant-loop-need
invariant-loop-need l = needs_met (known_groups l.self) l.at l.needs
    ≡ each (need_met (known_groups l.self) l.at) (drop l.need-index l.needs)
