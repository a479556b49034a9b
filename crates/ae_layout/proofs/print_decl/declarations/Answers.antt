use Rattle.ae_tree.specs.Shown.{code}
use Rattle.ae_layout.proofs.Steps.{decls_step, drop_copy}
use Rattle.ae_layout.proofs.print_decl.declarations.Goals as goal

pub loop-decl-preserved : goal.loop-decl-preserved
loop-decl-preserved c =
    decls_step (code c.args.program.now) c.as_slice-decl-items.result.now c.loop-decl.decl-index _ _ _ _
    (drop_copy c.as_slice-decl-items.result.now c.loop-decl.decl-index _ c.loop-decl-test.true)
    c.loop-decl.invariant c.in_ok-declaration.ensures
