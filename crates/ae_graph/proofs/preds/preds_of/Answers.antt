use Rattle.std.proofs.Common.{arith, sym, ◌∙◌, ◌≡◌, length, subst}
use Rattle.ae_rules.specs.Edges.{BlockUses}
use Rattle.ae_uses.specs.Footprint.{IsFootprintOf}
use Rattle.ae_uses.specs.Opened.{AreFootprints}
use Rattle.ae_graph.specs.Opened.{kept_of}
use Rattle.ae_graph.proofs.Waiting.{preds_found, opened_next}
use Rattle.ae_graph.proofs.Rows.{rows_more, length_more, footprint_at}
use Rattle.ae_graph.proofs.preds.preds_of.Goals as goal

pub loop-at-preserved : goal.loop-at-preserved
loop-at-preserved c =
    let at = c.loop-at.at in
    let fs = c.args.footprints.now in
    let us = c.as_slice-uses.result.now in
    let one : (uses : BlockUses) → AreFootprints uses (length fs) fs → IsFootprintOf (uses at) us = λ uses a.
    subst (IsFootprintOf (uses at)) (sym c.as_slice-uses.ensures)
    (footprint_at uses fs at c.index-footprints-at.result c.loop-at-test.true c.index-footprints-at.is a) in
    record {
      len = length_more c.loop-at.preds c.push.new.self at c.in_ok-waits.field-0 c.loop-at.invariant.len
          c.in_ok-push.ensures.ok;
      exact = λ uses a. rows_more uses c.loop-at.preds c.push.new.self at c.in_ok-waits.field-0 c.loop-at.invariant.len
          c.in_ok-push.ensures.ok (c.loop-at.invariant.exact uses a)
          (preds_found uses at us (kept_of c.loop-at.past) c.in_ok-waits.field-0 (one uses a)
          (c.loop-at.invariant.past uses a) c.in_ok-waits.ensures);
      past = λ uses a. opened_next uses at us (kept_of c.loop-at.past) (kept_of c.put_all.new.self) (one uses a)
          (c.loop-at.invariant.past uses a) c.in_ok-put_all.ensures;
    }

pub returns : goal.returns
returns c = λ uses a.
    let i = c.loop-at.invariant in
    let n : c.loop-at.at ≡ length c.args.footprints.now = omega (arith, c.loop-at-test.false, c.loop-at.auto.at-end) in
    (i.len ∙ n, λ j h. i.exact uses a j (omega (arith, h, i.len)))
