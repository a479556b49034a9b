use Rattle.std.proofs.Common.{◌≡◌, ◌++◌, take}
use Rattle.ae_graph.specs.GraphText.{lines_text}
use Rattle.ae_graph.proofs.text.put_lines.Given as goal

abbrev pub invariant-loop-at : goal.invariant-loop-at
invariant-loop-at l = l.text.items ≡ l.initial.text.items ++ lines_text 0 (take l.at l.rows)
