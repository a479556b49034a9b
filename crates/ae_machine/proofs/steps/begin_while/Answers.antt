use Rattle.std.proofs.Common.{arith, ◌∷◌, List}
use Rattle.ae_tree.specs.Plain.{Repeats}
use Rattle.ae_tree.specs.Shown.{braced, definition, expression}
use Rattle.ae_values.specs.Environments.{waiting_binds}
use Rattle.ae_running.specs.Seen.{seen}
use Rattle.ae_levels.specs.Levels.{Level, InLoop}
use Rattle.ae_machine.specs.Frames.{levels}
use Rattle.ae_machine.specs.Tasks.{IsPast, code_in, cost_at, names_in, whole_of}
use Rattle.ae_machine.proofs.TaskLemmas.{leads_when_ok}
use Rattle.ae_machine.proofs.steps.begin_while.Goals as goal

pub returns : goal.returns
returns c =
    leads_when_ok (whole_of c.args.task.now) c.args.run.now.out.items
    (λ (ls : List Level). IsPast c.args.task.now c.args.run.now ls (cost_at c.args.task.now c.args.rest
    (Repeats (expression c.args.test.now) (braced c.args.body.now).no (braced c.args.body.now).lines)
    (levels c.args.frames.now.items))) c.push.result (levels c.push.new.frames.items)
    (InLoop c.args.rest.fuel c.args.rest.depth (definition c.args.rest.method.now) c.args.at (expression c.args.test.now)
    (braced c.args.body.now).lines ∷ levels c.args.frames.now.items) c.push.ensures.pushed c.push.ensures.refused (
      c.loops_turn.ensures.loop_opens (code_in c.args.task.now) (whole_of c.args.task.now)
          (names_in c.args.run.now) (waiting_binds c.args.run.now.env) (seen c.args.run.now) c.args.run.now.out.items
          c.args.rest.fuel c.args.rest.depth (definition c.args.rest.method.now) c.args.at (expression c.args.test.now)
          (braced c.args.body.now).no (braced c.args.body.now).lines (levels c.args.frames.now.items) c.requires,
      omega arith,
    )
