use Rattle.std.proofs.Common.{reverse, vec_len}
use Rattle.ae_frames.proofs.ReturnLemmas.{ValuesSoFar}
use Rattle.ae_frames.proofs.taking.take_values.Given as goal

abbrev pub invariant-loop-one : goal.invariant-loop-one
invariant-loop-one l = ValuesSoFar l.fn.back.items l.initial.env l.env (reverse l.back.items) l.came.items

abbrev pub decreases-loop-one : goal.decreases-loop-one
decreases-loop-one l = vec_len l.back
