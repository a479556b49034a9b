use Rattle.ae_tree.specs.Grammar.{name, path_step}
use Rattle.ae_reading.specs.Reads.{itself, Free, Always}
use Rattle.ae_reading.proofs.ReadsLemmas.{exits, passes}
use Rattle.ae_reading.proofs.PathLemmas.{step_took, step_failed_dot, step_failed_name}
use Rattle.ae_reading.proofs.paths.step.Goals as goal

pub returns-in_err-rest : goal.returns-in_err-rest
returns-in_err-rest c = exits itself path_step Free Always _ _ _ (step_failed_dot _ _ c.in_err-rest.ensures)
    c.from_residual.ensures.1

pub returns : goal.returns
returns c = passes itself name path_step Free Free Always Always _ _ _
    (λ x rest s. step_took _ _ _ _ x c.in_ok-rest.ensures s) (λ e s. step_failed_name _ _ _ e c.in_ok-rest.ensures s)
    c.name.ensures
