use Rattle.std.proofs.Common.{reverse, vec_len}
use Rattle.ae_frames.proofs.ReturnLemmas.{GroupsSoFar}
use Rattle.ae_frames.proofs.taking.take_groups.Given as goal

abbrev pub invariant-loop-one : goal.invariant-loop-one
invariant-loop-one l = GroupsSoFar l.fn.lent.items l.initial.env l.env (reverse l.lent.items) l.returned.items

abbrev pub decreases-loop-one : goal.decreases-loop-one
decreases-loop-one l = vec_len l.lent
