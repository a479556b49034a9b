use Rattle.std.proofs.Common.{◌≡◌, ◌++◌, drop}
use Rattle.ae_layout.specs.Layout.{rows_text, decls_rows}
use Rattle.ae_tree.specs.Shown.{code}
use Rattle.ae_layout.proofs.print_decl.declarations.Given as goal

-- what is written and what is left are together the whole
abbrev pub invariant-loop-decl : goal.invariant-loop-decl
invariant-loop-decl l = l.initial.out.items ++ rows_text (decls_rows (code l.program) l.program.decls) ≡ l.out.items
    ++ rows_text (decls_rows (code l.program) (drop l.decl-index l.decl-items))
