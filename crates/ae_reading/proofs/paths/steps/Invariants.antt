use Rattle.std.proofs.Common.{length}
use Rattle.ae_tree.specs.Grammar.{path_step}
use Rattle.ae_reading.specs.Reads.{Free, Isnt}
use Rattle.ae_reading.proofs.Runs.{Run}
use Rattle.ae_reading.proofs.PathLemmas.{dot}
use Rattle.ae_reading.proofs.paths.steps.Given as goal

abbrev pub invariant-steps : goal.invariant-steps
invariant-steps l = Run path_step Free (Isnt dot) l.ts l.steps l.rest

abbrev pub decreases-steps : goal.decreases-steps
decreases-steps l = length l.rest
