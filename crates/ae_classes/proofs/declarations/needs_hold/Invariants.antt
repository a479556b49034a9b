use Rattle.std.proofs.Common.{◌≡◌, drop}
use Rattle.ae_rules.specs.Verdict.{in_turn}
use Rattle.ae_rules.specs.Lookups.{has_name}
use Rattle.ae_rules.specs.Table.{need_holds}
use Rattle.ae_classes.proofs.declarations.needs_hold.Given as goal

abbrev pub invariant-loop-need : goal.invariant-loop-need
invariant-loop-need l = in_turn (need_holds (has_name l.known)) l.needs (has_name l.initial.earlier)
    ≡ in_turn (need_holds (has_name l.known)) (drop l.need-index l.needs) (has_name l.earlier)
