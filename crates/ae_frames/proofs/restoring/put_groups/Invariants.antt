use Rattle.std.proofs.Common.{◌≡◌, reverse, vec_len}
use Rattle.ae_values.specs.Environments.{running_binds}
use Rattle.ae_values.specs.Shapes.{shapes}
use Rattle.ae_running.specs.Seen.{seen}
use Rattle.ae_stores.specs.Changes.{KeepsRest}
use Rattle.ae_frames.specs.Returns.{groups_put, returneds_of, holders_of, AreGroups}
use Rattle.ae_frames.proofs.restoring.put_groups.Given as goal

abbrev pub invariant-loop-one : goal.invariant-loop-one
invariant-loop-one l = (groups_put (returneds_of (reverse l.returned.items)) (seen l.run)
    ≡ groups_put (returneds_of l.fn.returned.items) (seen l.initial.run)) × KeepsRest l.initial.run l.run
    × AreGroups (holders_of (reverse l.returned.items)) (shapes (running_binds l.run.env))

abbrev pub decreases-loop-one : goal.decreases-loop-one
decreases-loop-one l = vec_len l.returned
