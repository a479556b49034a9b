use Rattle.std.proofs.Common.{◌≡◌, reverse, vec_len}
use Rattle.ae_semantics.specs.Calls.{without_moved}
use Rattle.ae_running.specs.Seen.{seen}
use Rattle.ae_stores.specs.Changes.{KeepsRest}
use Rattle.ae_frames.proofs.restoring.lose_all.Given as goal

abbrev pub invariant-loop-name : goal.invariant-loop-name
invariant-loop-name l = (without_moved (reverse l.gone.items) (seen l.run)
    ≡ without_moved l.fn.gone.items (seen l.initial.run)) × KeepsRest l.initial.run l.run

abbrev pub decreases-loop-name : goal.decreases-loop-name
decreases-loop-name l = vec_len l.gone
