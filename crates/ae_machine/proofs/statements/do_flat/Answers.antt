use Rattle.std.proofs.Common.{sym, subst, List, ◌∷◌}
use Rattle.ae_tree.specs.Shown.{action, lines_from}
use Rattle.ae_levels.specs.Halting.{HaltsAs}
use Rattle.ae_levels.specs.Levels.{Level}
use Rattle.ae_levels.specs.declared.halt.Halt.{Halt}
use Rattle.ae_machine.specs.Frames.{block_from, levels}
use Rattle.ae_machine.specs.Tasks.{whole_of}
use Rattle.ae_machine.proofs.FlatLemmas.{flat_faults, flat_goes_on}
use Rattle.ae_machine.proofs.statements.do_flat.Goals as goal

pub returns-in-Ok : goal.returns-in-Ok
returns-in-Ok c =
    let ls : List Level = block_from c.args.rest (lines_from c.args.others.now) ∷ levels c.args.frames.now.items in
    flat_goes_on c.statements_go_on.ensures c.args.task.now c.args.run.now c.act.new.run c.args.rest
    c.args.stmt.now.at (action c.args.stmt.now.kind) ls c.requires.begun c.requires.flat
    c.in-Ok.field-0 c.in-Ok.ensures.done c.in-Ok.ensures.names c.in-Ok.ensures.waiting

pub returns-in-Err : goal.returns-in-Err
returns-in-Err c =
    let ls : List Level = block_from c.args.rest (lines_from c.args.others.now) ∷ levels c.args.frames.now.items in
    subst (λ (h : Halt). HaltsAs (whole_of c.args.task.now) c.act.new.run.out.items h)
    (sym c.stopped_at.ensures)
    (flat_faults c.statements_go_on.ensures c.args.task.now c.args.run.now c.act.new.run c.args.rest
    c.args.stmt.now.at (action c.args.stmt.now.kind) ls c.in-Err.stop c.requires.begun
    c.requires.flat c.in-Err.ensures.done)
