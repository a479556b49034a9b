use Rattle.std.proofs.Common.{reverse, vec_len}
use Rattle.ae_running.specs.Seen.{seen}
use Rattle.ae_stores.specs.Changes.{KeepsRest}
use Rattle.ae_frames.proofs.CollectLemmas.{AreCollected}
use Rattle.ae_frames.proofs.collecting.collect.Given as goal

abbrev pub invariant-loop-one : goal.invariant-loop-one
invariant-loop-one l = AreCollected l.fn.asked.items (seen l.initial.run) (reverse l.asked.items) l.args.items (seen l.run)
    × KeepsRest l.initial.run l.run

abbrev pub decreases-loop-one : goal.decreases-loop-one
decreases-loop-one l = vec_len l.asked
