use Rattle.std.proofs.Common.{◌≡◌, drop}
use Rattle.ae_tree.specs.Shown.{code}
use Rattle.ae_rules.specs.Verdict.{each}
use Rattle.ae_rules.specs.Table.{decl_holds}
use Rattle.ae_classes.proofs.declarations.decls_hold.Given as goal

abbrev pub invariant-loop-decl : goal.invariant-loop-decl
invariant-loop-decl l = each (decl_holds (code l.program)) l.program.decls
    ≡ each (decl_holds (code l.program)) (drop l.decl-index l.program.decls)
