use Rattle.std.proofs.Common.{◌∙◌, ap}
use Rattle.std.specs.Prelude.{option_map}
use Rattle.ae_values.specs.Environments.{waiting_binds}
use Rattle.ae_values.specs.Shown.{shown}
use Rattle.ae_running.specs.Results.{result_measured}
use Rattle.ae_frames.specs.Granting.{groups_seen}
use Rattle.ae_frames.proofs.from_reads.WalkLemmas.{faults_equal}
use Rattle.ae_frames.proofs.LeaveLemmas.{left_as_taken, holders_stand, result_is_measured}
use Rattle.ae_frames.proofs.leaving.leave.Goals as goal

pub restore-requires : goal.restore-requires
restore-requires c = holders_stand c.args.left.waiting c.args.run.now.env c.leave.new.self
    c.in-Ok-take_groups.returned.items (groups_seen c.take_values.new.env) (waiting_binds c.take_groups.new.env)
    c.requires c.in-Ok-take_groups.ensures.returned c.leave.ensures.running
    (c.take_groups.ensures.waiting ∙ c.take_values.ensures.waiting)

pub returns-in-Ok-restore-clause-left : goal.returns-in-Ok-restore-clause-left
returns-in-Ok-restore-clause-left c = (
  left_as_taken c.args.left c.args.run.now c.leave.new.self c.in-Ok.came.items c.in-Ok-take_groups.returned.items
      (groups_seen c.take_values.new.env) (waiting_binds c.take_groups.new.env) c.replace-result.new.dest
      c.replace-result.ensures.after c.in-Ok.ensures.came c.in-Ok-take_groups.ensures.returned
      c.take_values.ensures.groups c.leave.ensures.running
      (c.take_groups.ensures.waiting ∙ c.take_values.ensures.waiting) ∙ c.in-Ok-restore.ensures.written,
  ap (option_map shown) c.replace-result.ensures.value,
  result_is_measured c.replace-result.result
      (ap result_measured c.replace-result.ensures.value ∙ c.args.run.now.measured),
)

pub returns-in-Err-restore-clause-left : goal.returns-in-Err-restore-clause-left
returns-in-Err-restore-clause-left c = faults_equal _ _ c.in-Err-restore.stop
    (left_as_taken c.args.left c.args.run.now c.leave.new.self c.in-Ok.came.items c.in-Ok-take_groups.returned.items
    (groups_seen c.take_values.new.env) (waiting_binds c.take_groups.new.env) c.replace-result.new.dest
    c.replace-result.ensures.after c.in-Ok.ensures.came c.in-Ok-take_groups.ensures.returned
    c.take_values.ensures.groups c.leave.ensures.running
    (c.take_groups.ensures.waiting ∙ c.take_values.ensures.waiting)) c.in-Err-restore.ensures.written
