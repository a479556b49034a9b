use Rattle.std.proofs.Common.{◌≡◌, ap, sym, ◌∙◌}
use Rattle.ae_tree.specs.declared.tree.Program.{Program}
use Rattle.ae_tree.specs.Shown.{lines_from, code}
use Rattle.ae_tree.specs.Limits.{statement_count}
use Rattle.ae_run.specs.Main.{main_lines}
use Rattle.ae_run.proofs.Programs.{stmts_are, count_lines}
use Rattle.ae_run.proofs.course.main_stmts.Goals as goal

pub returns-clause-lines : goal.returns-clause-lines
returns-clause-lines c =
    stmts_are c.args.code.now.program c.requires c.as_slice-methods.result.now
    (c.as_slice-methods.ensures ∙ ap (λ (p : Program). p.methods) c.program.ensures.program) c.index-methods-0.result
    c.as_slice-stmts.result.now c.as_slice-stmts.ensures

pub returns-clause-count : goal.returns-clause-count
returns-clause-count c =
    let e : lines_from c.as_slice-stmts.result.now ≡ main_lines (code c.args.code.now.program) =
    stmts_are c.args.code.now.program c.requires c.as_slice-methods.result.now
    (c.as_slice-methods.ensures ∙ ap (λ (p : Program). p.methods) c.program.ensures.program) c.index-methods-0.result
    c.as_slice-stmts.result.now c.as_slice-stmts.ensures in
    sym (count_lines c.as_slice-stmts.result.now) ∙ ap statement_count e
