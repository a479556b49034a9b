use Rattle.std.proofs.Common.{◌≡◌, ◌++◌, drop}
use Rattle.std.specs.Prelude.{zip, filter_map}
use Rattle.ae_tree.specs.Shown.{invocation}
use Rattle.ae_rules.specs.Calls.{givens}
use Rattle.ae_semantics.specs.Calls.{given_away}
use Rattle.ae_frames.specs.Givens.{takers_of}
use Rattle.ae_frames.proofs.gone.all_given_away.Given as goal

-- the rest completes the whole
abbrev pub invariant-loop-at : goal.invariant-loop-at
invariant-loop-at l = l.gone.items
    ++ filter_map given_away (zip (takers_of (drop l.at l.takers)) (drop l.at (givens (invocation l.call))))
    ≡ filter_map given_away (zip (takers_of l.takers) (givens (invocation l.call)))
