use Rattle.std.proofs.Common.{◌≡◌, reverse, vec_len}
use Rattle.ae_running.specs.Seen.{seen}
use Rattle.ae_stores.specs.Changes.{KeepsRest}
use Rattle.ae_frames.specs.Returns.{all_written, cames_of}
use Rattle.ae_frames.proofs.restoring.bring_all.Given as goal

abbrev pub invariant-loop-one : goal.invariant-loop-one
invariant-loop-one l = (all_written (cames_of (reverse l.came.items)) (seen l.run)
    ≡ all_written (cames_of l.fn.came.items) (seen l.initial.run)) × KeepsRest l.initial.run l.run

abbrev pub decreases-loop-one : goal.decreases-loop-one
decreases-loop-one l = vec_len l.came
