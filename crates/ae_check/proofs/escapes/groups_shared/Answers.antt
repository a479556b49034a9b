use Rattle.std.proofs.Common.{ap, ◌∙◌}
use Rattle.ae_groups.specs.Contexts.{set_of_names}
use Rattle.ae_check.proofs.EscapeLemmas.{one_group_more, no_group_more}
use Rattle.ae_check.proofs.escapes.groups_shared.Goals as goal
use Rattle.ae_check.proofs.escapes.groups_shared.Goals.{in-Some+in_ok-insert-in-Some, in-None}

pub loop-change-preserved : goal.loop-change-preserved
loop-change-preserved c = λ g. elim c.match-shared_by.branch [
  | in-Some+in_ok-insert-in-Some w ↦ one_group_more c.args.locals g w.in-Some.group c.loop-change.change-index
      c.args.changes.now _ c.shared_by.result (set_of_names c.loop-change.groups g)
      (set_of_names c.match-shared_by.groups g) c.loop-change-test.true (c.shared_by.ensures g) w.in-Some.is
      (c.loop-change.invariant g) (ap (λ s. set_of_names s g) w.groups-is ∙ w.in_ok-insert-in-Some.ensures.updates.0 g)
  | in-None w ↦ no_group_more c.args.locals g c.loop-change.change-index c.args.changes.now _ c.shared_by.result
      (set_of_names c.loop-change.groups g) (set_of_names c.match-shared_by.groups g) c.loop-change-test.true
      (c.shared_by.ensures g) w.in-None.is (c.loop-change.invariant g) (ap (λ s. set_of_names s g) w.groups-is)
]
