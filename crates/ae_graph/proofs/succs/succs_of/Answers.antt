use Rattle.std.proofs.Common.{ap, ◌∙◌, arith, length, get_or, List, [], ◌<◌, ℕ}
use Rattle.ae_graph.specs.Succs.{joined, is_among}
use Rattle.ae_graph.proofs.Rows.{succs_more}
use Rattle.ae_graph.proofs.succs.succs_of.Goals as goal

pub loop-at-preserved : goal.loop-at-preserved
loop-at-preserved c =
    let j = c.in_ok-join.ensures in
    record {
      len = j.len ∙ c.loop-at.invariant.len;
      each = λ i h.
          let m : i < length c.loop-at.succs.items = omega (arith, h, c.loop-at.invariant.len) in
          succs_more c.args.preds.now i c.loop-at.at c.index-preds-at.result (get_or c.loop-at.succs.items i [])
          (get_or c.join.new.succs.items i []) (c.loop-at.invariant.each i h)
          c.loop-at-test.true c.index-preds-at.is
          (j.each i m ∙ ap (λ (l : List ℕ). joined (is_among l i) c.loop-at.at (get_or c.loop-at.succs.items i []))
          c.as_slice.ensures);
    }
