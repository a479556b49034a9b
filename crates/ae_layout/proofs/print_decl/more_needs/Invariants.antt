use Rattle.std.proofs.Common.{◌≡◌, ◌++◌, drop, false}
use Rattle.ae_layout.specs.Spelling.{tokens_text}
use Rattle.ae_layout.specs.Layout.{after_commas, need_tokens}
use Rattle.ae_layout.proofs.print_decl.more_needs.Given as goal

-- what is written and what is left are together the whole
abbrev pub invariant-loop-item : goal.invariant-loop-item
invariant-loop-item l = l.initial.out.items ++ tokens_text (after_commas (need_tokens l.names false) l.list)
    ≡ l.out.items ++ tokens_text (after_commas (need_tokens l.names false) (drop l.item-index l.list))
