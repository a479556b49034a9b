use Rattle.std.proofs.Common.{reverse, vec_len}
use Rattle.ae_frames.proofs.BindingLemmas.{BoundSoFar}
use Rattle.ae_frames.proofs.binding.bind_all.Given as goal

abbrev pub invariant-loop-taker : goal.invariant-loop-taker
invariant-loop-taker l = BoundSoFar l.fn.takers.items l.fn.args.items l.initial.env l.env
    (reverse l.takers.items) (reverse l.args.items) l.back.items

abbrev pub decreases-loop-taker : goal.decreases-loop-taker
decreases-loop-taker l = vec_len l.takers
