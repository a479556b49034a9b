use Rattle.std.proofs.Common.{◌≡◌, drop}
use Rattle.ae_groups.specs.Contexts.{needed}
use Rattle.ae_groups.proofs.start.permission_at_start.Given as goal

-- the rest decides
abbrev pub invariant-loop-need : goal.invariant-loop-need
invariant-loop-need l = needed l.needs l.group ≡ needed (drop l.need-index l.needs) l.group
