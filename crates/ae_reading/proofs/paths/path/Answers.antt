use Rattle.ae_reading.proofs.ReadsLemmas.{exits}
use Rattle.ae_reading.proofs.PathLemmas.{dot, path_took, path_failed_root, path_failed_steps}
use Rattle.ae_tree.specs.Grammar.{path}
use Rattle.ae_reading.specs.Reads.{itself, Free, Isnt}
use Rattle.ae_reading.proofs.paths.path.Goals as goal

pub returns-in_err-root : goal.returns-in_err-root
returns-in_err-root c = exits itself path Free (Isnt dot) _ _ _
    (path_failed_root Free _ _ (λ l. tt) c.in_err-root.ensures) c.from_residual.ensures.1

pub returns-in_err-steps : goal.returns-in_err-steps
returns-in_err-steps c = exits itself path Free (Isnt dot) _ _ _
    (path_failed_steps Free _ _ _ _ c.in_ok-root.ensures c.in_err-steps.ensures)
    c.from_residual-in_err-steps.ensures.1

pub returns : goal.returns
returns c = path_took Free _ _ _ _ _ c.in_ok-root.ensures c.in_ok-steps.ensures
