use Rattle.std.proofs.Common.{reverse, vec_len}
use Rattle.ae_frames.proofs.BindingLemmas.{GrantedSoFar}
use Rattle.ae_frames.proofs.binding.grant_all.Given as goal

abbrev pub invariant-loop-one : goal.invariant-loop-one
invariant-loop-one l = GrantedSoFar l.fn.granted.items l.initial.env l.env (reverse l.granted.items)

abbrev pub decreases-loop-one : goal.decreases-loop-one
decreases-loop-one l = vec_len l.granted
