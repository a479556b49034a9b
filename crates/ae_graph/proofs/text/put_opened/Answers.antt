use Rattle.std.proofs.Common.{◌∙◌, ◌++◌, ap, List, ℕ}
use Rattle.std.proofs.lemmas.Result.{on_ok_weaker}
use Rattle.ae_graph.proofs.Drawing.{text_is_drawn}
use Rattle.ae_graph.proofs.text.put_opened.Goals as goal

pub returns : goal.returns
returns c = λ p x d.
    on_ok_weaker c.put_block.result (λ e. e ∙ ap (λ (t : List ℕ). c.args.text.now.items ++ t)
    (text_is_drawn p x c.args.opened.now d c.in_ok-graph.graph (c.in_ok-graph.ensures p x d))) c.put_block.ensures
