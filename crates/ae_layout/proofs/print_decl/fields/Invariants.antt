use Rattle.std.proofs.Common.{◌≡◌, ◌++◌, drop}
use Rattle.ae_layout.specs.Layout.{rows_text, fields_rows}
use Rattle.ae_layout.proofs.print_decl.fields.Given as goal

-- what is written and what is left are together the whole
abbrev pub invariant-loop-item : goal.invariant-loop-item
invariant-loop-item l = l.initial.out.items ++ rows_text (fields_rows l.names l.indent l.list) ≡ l.out.items
    ++ rows_text (fields_rows l.names l.indent (drop l.item-index l.list))
