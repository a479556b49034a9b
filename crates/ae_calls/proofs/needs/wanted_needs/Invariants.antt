use Rattle.std.proofs.Common.{◌≡◌, map, take}
use Rattle.ae_rules.specs.Groups.{wanted_need}
use Rattle.ae_calls.specs.Param.{new_in}
use Rattle.ae_calls.proofs.needs.wanted_needs.Given as goal

abbrev pub invariant-loop-need : goal.invariant-loop-need
invariant-loop-need l = l.wanted.items ≡ map (wanted_need (new_in l.new)) (take l.need-index l.needs)
