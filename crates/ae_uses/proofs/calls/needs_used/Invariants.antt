use Rattle.std.proofs.Common.{map, drop}
use Rattle.ae_rules.specs.Groups.{wanted_need}
use Rattle.ae_rules.specs.Uses.{of_each, need_uses}
use Rattle.ae_calls.specs.Param.{new_in}
use Rattle.ae_uses.specs.Used.{Owes}
use Rattle.ae_uses.proofs.calls.needs_used.Given as goal

-- the needs from here on are still to be used
abbrev pub invariant-loop-need : goal.invariant-loop-need
invariant-loop-need l = Owes l.initial.used (of_each need_uses (map (wanted_need (new_in l.new)) l.needs))
    l.used (of_each need_uses (map (wanted_need (new_in l.new)) (drop l.need-index l.needs)))
