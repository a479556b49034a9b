use Rattle.std.proofs.Common.{ap, ◌∙◌, ◌++◌, List, ℕ}
use Rattle.ae_graph.specs.GraphText.{line_text}
use Rattle.ae_graph.proofs.Texts.{lines_more}
use Rattle.ae_graph.proofs.text.put_lines.Goals as goal

pub loop-at-preserved : goal.loop-at-preserved
loop-at-preserved c =
    lines_more c.args.text.now.items c.loop-at.text.items c.put_line.new.text.items c.args.rows.now c.loop-at.at
    c.index-rows-at.result c.loop-at-test.true c.index-rows-at.is c.loop-at.invariant
    (c.in_ok-put_line.ensures ∙ ap (λ (l : List ℕ). c.loop-at.text.items ++ line_text c.loop-at.at l)
    c.as_slice.ensures)
