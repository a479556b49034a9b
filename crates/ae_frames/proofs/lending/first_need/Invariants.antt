use Rattle.std.proofs.Common.{◌≡◌, drop}
use Rattle.ae_frames.specs.Granting.{holder_by, groups_seen, first_need}
use Rattle.ae_frames.proofs.lending.first_need.Given as goal

-- the rest decides
abbrev pub invariant-loop-need : goal.invariant-loop-need
invariant-loop-need l = first_need (holder_by (groups_seen l.env) l.new) l.needs l.name
    ≡ first_need (holder_by (groups_seen l.env) l.new) (drop l.need-index l.needs) l.name
