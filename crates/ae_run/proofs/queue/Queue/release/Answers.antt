use Rattle.std.proofs.Common.{◌≡◌, ◌<◌, ◌+◌, ℕ, List, length, get_or, take, set, nat_eq, if◌then◌else◌, ap, sym, ◌∙◌}
use Rattle.std.proofs.Common.{refl}
use Rattle.std.proofs.lemmas.List.{get_or_default}
use Rattle.std.proofs.Math.ListN.{length-set}
use Rattle.std.specs.BinaryHeap.{heap_items}
use Rattle.ae_run.specs.Queue.{zero_as_one, waits_of}
use Rattle.ae_run.proofs.Lists.{waits_some, released_waits, released_ready}
use Rattle.ae_run.proofs.queue.Queue.release.Goals as goal
use Rattle.ae_text.specs.Numbers.{times}

pub lower-left-requires-clause-within : goal.lower-left-requires-clause-within
lower-left-requires-clause-within c =
    let ws = c.loop-succ.self.waits.items in
    let xs = c.args.succs.now in
    let k = c.loop-succ.succ-index in
    (waits_some c.args.self.now.waits.items ws xs k (get_or xs k 0) c.requires c.loop-succ.invariant.size
    c.loop-succ.invariant.waits c.loop-succ-test.true refl).0

pub lower-left-requires-clause-some : goal.lower-left-requires-clause-some
lower-left-requires-clause-some c =
    let ws = c.loop-succ.self.waits.items in
    let xs = c.args.succs.now in
    let k = c.loop-succ.succ-index in
    (waits_some c.args.self.now.waits.items ws xs k (get_or xs k 0) c.requires c.loop-succ.invariant.size
    c.loop-succ.invariant.waits c.loop-succ-test.true refl).1

pub loop-succ-preserved : goal.loop-succ-preserved
loop-succ-preserved c =
    let first = c.args.self.now.waits.items in
    let ws = c.loop-succ.self.waits.items in
    let xs = c.args.succs.now in
    let k = c.loop-succ.succ-index in
    let x = get_or xs k 0 in
    let left = c.lower-left.result in
    let l : x < length ws = (waits_some first ws xs k x c.requires c.loop-succ.invariant.size
    c.loop-succ.invariant.waits c.loop-succ-test.true refl).0 in
    let d : left + 1 ≡ waits_of ws x = c.lower-left.ensures.left ∙ get_or_default ws x 0 1 l in
    let e : c.admit.new.self.waits.items ≡ set ws x left = c.in_ok-admit.ensures.waits ∙ c.lower-left.ensures.waits in
    record {
      size = ap length e ∙ length-set ws x left ∙ c.loop-succ.invariant.size;
      waits = λ i. ap (λ (ys : List ℕ). waits_of ys i + times i (take (k + 1) xs)) e
          ∙ released_waits first ws xs k x left i (c.loop-succ.invariant.waits i) c.loop-succ-test.true refl l d;
      ready = λ i.
          let t : times i (heap_items c.admit.new.self.ready) ≡ (if nat_eq x i then zero_as_one left else 0) + times i
          (heap_items c.loop-succ.self.ready) =
          c.in_ok-admit.ensures.ready i ∙ ap
          (λ h. (if nat_eq x i then zero_as_one left else 0) + times i (heap_items h))
          c.lower-left.ensures.ready in
          released_ready ws x left i (times i (heap_items c.loop-succ.self.ready))
          (times i (heap_items c.admit.new.self.ready)) (times i (heap_items c.args.self.now.ready))
          (zero_as_one (waits_of first i)) l d (c.loop-succ.invariant.ready i) t
          ∙ ap (λ (ys : List ℕ). times i (heap_items c.args.self.now.ready) + zero_as_one (waits_of ys i)) (sym e);
    }
