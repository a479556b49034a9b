use Rattle.std.proofs.Common.{drop, length}
use Rattle.ae_tree.specs.Shown.{invocation}
use Rattle.ae_rules.specs.Calls.{givens}
use Rattle.ae_semantics.specs.Calls.{each_argument}
use Rattle.ae_judge.specs.Tabled.{code_of}
use Rattle.ae_running.specs.Seen.{seen}
use Rattle.ae_frames.specs.Givens.{takers_of}
use Rattle.ae_frames.proofs.AskedLemmas.{AreAskedSoFar}
use Rattle.ae_frames.proofs.arguments.arguments.Given as goal

-- the arguments go on from here
abbrev pub invariant-loop-handed : goal.invariant-loop-handed
invariant-loop-handed l = AreAskedSoFar (each_argument (code_of l.tabled) (seen l.run) (givens (invocation l.call)))
    (code_of l.tabled) (seen l.run) (takers_of l.takers) (givens (invocation l.call)) l.args.items

abbrev pub decreases-loop-handed : goal.decreases-loop-handed
decreases-loop-handed l = length (drop (length l.args.items) (givens (invocation l.call)))
