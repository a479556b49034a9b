use Rattle.std.proofs.Common.{◌≡◌, ◌++◌, drop}
use Rattle.ae_layout.specs.Spelling.{tokens_text}
use Rattle.ae_layout.specs.Layout.{steps_tokens}
use Rattle.ae_layout.proofs.print_expr.steps.Given as goal

-- what is written and what is left are together the whole
abbrev pub invariant-loop-step : goal.invariant-loop-step
invariant-loop-step l = l.initial.out.items ++ tokens_text (steps_tokens l.names l.list) ≡ l.out.items
    ++ tokens_text (steps_tokens l.names (drop l.step-index l.list))
