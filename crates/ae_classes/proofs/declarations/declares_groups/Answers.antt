use Rattle.std.proofs.Common.{drop, ◌+◌, refl}
use Rattle.ae_rules.specs.Lookups.{has_name}
use Rattle.ae_rules.specs.Table.{declares_groups, most_groups}
use Rattle.ae_classes.proofs.TurnLemmas.{answered_by_that_error, from_copied_place}
use Rattle.ae_classes.proofs.ClauseLemmas.{a_group_breaks}
use Rattle.ae_classes.proofs.declarations.declares_groups.Goals as goal

pub returns-in_err-is_new : goal.returns-in_err-is_new
returns-in_err-is_new c =
    let groups = c.args.groups.now in
    let i = c.loop-group.group-index in
    answered_by_that_error (declares_groups most_groups groups (has_name c.args.outer.now)) has_name
    (has_name c.is_new.new.earlier) c.in_err-is_new.field-0.0 c.from_residual-in_err-is_new.result
    (a_group_breaks c.loop-group.room _ (drop (i + 1) groups) (drop i groups)
    (declares_groups most_groups groups (has_name c.args.outer.now)) (has_name c.loop-group.known)
    (has_name c.is_new.new.earlier) c.in_err-is_new.field-0.0 c.if-room-eq0.false
    (from_copied_place groups groups i _ refl c.loop-group-test.true) c.loop-group.invariant c.in_err-is_new.ensures)
    c.from_residual-in_err-is_new.ensures.1
