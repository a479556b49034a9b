use Rattle.std.proofs.Common.{◌≡◌, ◌+◌, [], ◌∷◌, ◌++◌, nat_eq, if◌then◌else◌, length, get_or, ap, sym, ◌∙◌}
use Rattle.std.proofs.Common.{length-append}
use Rattle.std.specs.BinaryHeap.{heap_items}
use Rattle.ae_graph.specs.Graph.{preds_in}
use Rattle.ae_run.specs.Queue.{zero_as_one, waits_of}
use Rattle.ae_run.proofs.Lists.{begun_at, began_waits}
use Rattle.ae_run.proofs.queue.Queue.new.Goals as goal
use Rattle.ae_text.specs.Numbers.{times}

pub loop-j-preserved : goal.loop-j-preserved
loop-j-preserved c =
    let ws = c.loop-j.queue.waits.items in
    let p = length c.preds-preds.result.now in
    let e : c.admit.new.self.waits.items ≡ ws ++ p ∷ [] = c.in_ok-admit.ensures.waits ∙ c.in_ok-add.ensures.waits in
    let n : c.loop-j.j ≡ length ws = sym c.loop-j.invariant.size in
    record {
      size = ap length e ∙ length-append ws (p ∷ []) ∙ ap (λ x. x + 1) c.loop-j.invariant.size;
      waits = λ i l. ap (λ xs. get_or xs i 0) e
          ∙ began_waits ws p (λ k. length (preds_in c.args.graph.now k)) c.loop-j.j n c.loop-j.invariant.waits
          (ap length c.preds-preds.ensures) i l;
      ready = λ i. begun_at ws p (times i (heap_items c.loop-j.queue.ready))
          (times i (heap_items c.admit.new.self.ready)) i c.loop-j.j n (c.loop-j.invariant.ready i)
          (c.in_ok-admit.ensures.ready i
          ∙ ap (λ h. (if nat_eq c.loop-j.j i then zero_as_one p else 0) + times i (heap_items h))
          c.add.ensures.ready)
          ∙ ap (λ xs. zero_as_one (waits_of xs i)) (sym e);
    }
