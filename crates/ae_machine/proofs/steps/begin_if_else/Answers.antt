use Rattle.std.proofs.Common.{ap, sym, ◌∙◌, subst, arith, ◌∷◌, List, length, true, false}
use Rattle.ae_tree.specs.Plain.{ChoosesElse}
use Rattle.ae_tree.specs.Shown.{braced, definition, expression}
use Rattle.ae_semantics.specs.Places.{Fine}
use Rattle.ae_values.specs.Environments.{waiting_binds}
use Rattle.ae_running.specs.Seen.{seen}
use Rattle.ae_levels.specs.declared.halt.Halt.{Halt}
use Rattle.ae_levels.specs.Levels.{Level, InBlock}
use Rattle.ae_machine.specs.Frames.{levels}
use Rattle.ae_levels.specs.Halting.{HaltsAs}
use Rattle.ae_machine.specs.Tasks.{IsPast, code_in, cost_at, names_in, whole_of}
use Rattle.ae_machine.proofs.TaskLemmas.{leads_when_ok}
use Rattle.ae_machine.proofs.steps.begin_if_else.Goals as goal

pub returns-then-holds : goal.returns-then-holds
returns-then-holds c =
    leads_when_ok (whole_of c.args.task.now) c.args.run.now.out.items
    (λ (ls : List Level). IsPast c.args.task.now c.args.run.now ls (cost_at c.args.task.now c.args.rest
    (ChoosesElse (expression c.args.test.now) (braced c.args.body.now).no (braced c.args.body.now).lines
    (braced c.args.other.now).no (braced c.args.other.now).lines)
    (levels c.args.frames.now.items))) c.open.result (levels c.open.new.frames.items)
    (InBlock c.args.rest.fuel c.args.rest.depth (definition c.args.rest.method.now) (braced c.args.body.now).lines
    (length (names_in c.args.run.now)) ∷ levels c.args.frames.now.items) c.open.ensures.opened
    c.open.ensures.refused (
      c.blocks_open_and_end.ensures.else_opens (code_in c.args.task.now) (whole_of c.args.task.now)
          (names_in c.args.run.now) (waiting_binds c.args.run.now.env) (seen c.args.run.now) c.args.run.now.out.items
          c.args.rest.fuel c.args.rest.depth (definition c.args.rest.method.now) c.args.at (expression c.args.test.now)
          (braced c.args.body.now).no (braced c.args.body.now).lines (braced c.args.other.now).no
          (braced c.args.other.now).lines (levels c.args.frames.now.items) true c.requires
          (c.in-Ok.ensures ∙ ap Fine c.if-holds.true),
      omega arith,
    )

pub returns-else-holds : goal.returns-else-holds
returns-else-holds c =
    leads_when_ok (whole_of c.args.task.now) c.args.run.now.out.items
    (λ (ls : List Level). IsPast c.args.task.now c.args.run.now ls (cost_at c.args.task.now c.args.rest
    (ChoosesElse (expression c.args.test.now) (braced c.args.body.now).no (braced c.args.body.now).lines
    (braced c.args.other.now).no (braced c.args.other.now).lines)
    (levels c.args.frames.now.items))) c.open-else-holds.result (levels c.open-else-holds.new.frames.items)
    (InBlock c.args.rest.fuel c.args.rest.depth (definition c.args.rest.method.now) (braced c.args.other.now).lines
    (length (names_in c.args.run.now)) ∷ levels c.args.frames.now.items) c.open-else-holds.ensures.opened
    c.open-else-holds.ensures.refused (
      c.blocks_open_and_end.ensures.else_opens (code_in c.args.task.now) (whole_of c.args.task.now)
          (names_in c.args.run.now) (waiting_binds c.args.run.now.env) (seen c.args.run.now) c.args.run.now.out.items
          c.args.rest.fuel c.args.rest.depth (definition c.args.rest.method.now) c.args.at (expression c.args.test.now)
          (braced c.args.body.now).no (braced c.args.body.now).lines (braced c.args.other.now).no
          (braced c.args.other.now).lines (levels c.args.frames.now.items) false c.requires
          (c.in-Ok.ensures ∙ ap Fine c.if-holds.false),
      omega arith,
    )

pub returns-in-Err : goal.returns-in-Err
returns-in-Err c =
    subst (λ (h : Halt). HaltsAs (whole_of c.args.task.now) c.args.run.now.out.items h) (sym c.stopped_at.ensures)
    (c.blocks_open_and_end.ensures.else_faults (code_in c.args.task.now) (whole_of c.args.task.now)
    (names_in c.args.run.now) (waiting_binds c.args.run.now.env) (seen c.args.run.now) c.args.run.now.out.items
    c.args.rest.fuel c.args.rest.depth (definition c.args.rest.method.now) c.args.at (expression c.args.test.now)
    (braced c.args.body.now).no (braced c.args.body.now).lines (braced c.args.other.now).no
    (braced c.args.other.now).lines (levels c.args.frames.now.items) c.in-Err.stop c.requires c.in-Err.ensures)
