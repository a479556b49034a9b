use Rattle.std.proofs.Common.{ap, ◌∙◌, ◌++◌, List}
use Rattle.ae_graph.specs.Graph.{edges_to}
use Rattle.ae_graph.proofs.Rows.{edges_more}
use Rattle.ae_graph.proofs.succs.edges_of.Goals as goal

pub loop-at-preserved : goal.loop-at-preserved
loop-at-preserved c =
    edges_more c.loop-at.edges c.put_edges.new.edges c.args.preds.now c.loop-at.at c.index-preds-at.result
    c.loop-at-test.true c.index-preds-at.is c.loop-at.invariant
    (c.in_ok-put_edges.ensures ∙ ap (λ (l : List _). c.loop-at.edges ++ edges_to c.loop-at.at l) c.as_slice.ensures)
