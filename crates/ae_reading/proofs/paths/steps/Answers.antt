use Rattle.ae_tree.specs.Grammar.{name, path_step, one_by_one}
use Rattle.ae_reading.specs.Reads.{itself, Free, Always, Isnt}
use Rattle.ae_reading.proofs.ReadsLemmas.{exits, mark_smaller}
use Rattle.ae_reading.proofs.Begins.{is_isnt}
use Rattle.ae_reading.proofs.Runs.{run_end}
use Rattle.ae_reading.proofs.PathLemmas.{dot, no_step}
use Rattle.ae_reading.proofs.PartLemmas.{loop_start, loop_more, loop_failed}
use Rattle.ae_reading.proofs.paths.steps.Goals as goal

pub steps-init : goal.steps-init
steps-init c = loop_start path_step (Isnt dot) _ _ c.new-steps.ensures

pub returns-in_err-name : goal.returns-in_err-name
returns-in_err-name c = exits itself (one_by_one path_step) Free (Isnt dot) _ _ _
    (loop_failed path_step (Isnt dot) _ _ _ _ (is_isnt dot _ c.steps-test.ensures) c.steps.invariant
    c.in_err-name.ensures) c.from_residual.ensures.1

pub steps-smaller : goal.steps-smaller
steps-smaller c = mark_smaller dot name Free Always _ _ _ c.in_ok-name.ensures

pub steps-preserved : goal.steps-preserved
steps-preserved c = loop_more path_step (Isnt dot) _ _ _ _ _ _ (is_isnt dot _ c.steps-test.ensures)
    c.in_ok-push.ensures.ok c.steps.invariant c.in_ok-name.ensures

pub returns : goal.returns
returns c = run_end (no_step _ c.steps-test.ensures) c.steps.invariant
