use Rattle.std.proofs.Common.{ℕ, nat_eq, if◌then◌else◌, ◌+◌, ap, sym, ◌∙◌}
use Rattle.std.specs.BinaryHeap.{heap_items}
use Rattle.ae_run.specs.Queue.{zero_as_one}
use Rattle.ae_run.proofs.Lists.{times_pushed}
use Rattle.ae_run.proofs.queue.Queue.admit.Goals as goal
use Rattle.ae_text.specs.Numbers.{times}

pub returns-in_ok-push-clause-ready : goal.returns-in_ok-push-clause-ready
returns-in_ok-push-clause-ready c = λ i.
    let before = heap_items c.args.self.now.ready in
    times_pushed i c.args.j before (heap_items c.push.new.self) c.in_ok-push.ensures.permutation
    ∙ ap (λ (n : ℕ). (if nat_eq c.args.j i then n else 0) + times i before) (sym (ap zero_as_one c.if-left-eq0.true))
