use Rattle.std.proofs.Common.{◌≡◌, ◌++◌, drop, false, map}
use Rattle.ae_layout.specs.Spelling.{tokens_text}
use Rattle.ae_tree.specs.Shown.{expression}
use Rattle.ae_layout.specs.Layout.{after_commas, expression_tokens}
use Rattle.ae_layout.proofs.print_expr.more_exprs.Given as goal

-- what is written and what is left are together the whole
abbrev pub invariant-loop-item : goal.invariant-loop-item
invariant-loop-item l = l.initial.out.items
    ++ tokens_text (after_commas (expression_tokens l.names false) (map expression l.list)) ≡ l.out.items
    ++ tokens_text (after_commas (expression_tokens l.names false) (map expression (drop l.item-index l.list)))
