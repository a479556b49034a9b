use Rattle.std.proofs.Common.{◌≡◌, ◌++◌, drop, map}
use Rattle.ae_layout.specs.Layout.{rows_text, methods_rows}
use Rattle.ae_tree.specs.Shown.{definition}
use Rattle.ae_layout.proofs.print_decl.numbered_methods.Given as goal

-- what is written and what is left are together the whole
abbrev pub invariant-loop-number : goal.invariant-loop-number
invariant-loop-number l = l.initial.out.items
    ++ rows_text (methods_rows l.names l.indent (map definition l.list) l.numbers) ≡ l.out.items
    ++ rows_text (methods_rows l.names l.indent (map definition l.list) (drop l.number-index l.numbers))
