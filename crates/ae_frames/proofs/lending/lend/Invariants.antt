use Rattle.ae_frames.proofs.LendLemmas.{LentSoFar}
use Rattle.ae_frames.proofs.lending.lend.Given as goal

abbrev pub invariant-loop-at : goal.invariant-loop-at
invariant-loop-at l = LentSoFar l.new l.needs l.at l.initial.env l.env l.lending
