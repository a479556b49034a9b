use Rattle.std.proofs.Common.{◌≡◌, ◌++◌, drop}
use Rattle.ae_tree.specs.Shown.{braced, lines_from}
use Rattle.ae_layout.specs.Layout.{rows_text, rows, indented_more}
use Rattle.ae_layout.proofs.print_stmt.+lines.Given as goal

-- what is written and what is left are together the whole
abbrev pub invariant-braces-loop-stmt : goal.invariant-braces-loop-stmt
invariant-braces-loop-stmt l = l.initial.out.items
    ++ rows_text (rows l.names (indented_more l.indent) (braced l.block).lines) ≡ l.out.items
    ++ rows_text (rows l.names (indented_more l.indent) (lines_from (drop l.stmt-index l.stmt-items)))
