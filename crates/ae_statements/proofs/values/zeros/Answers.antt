use Rattle.ae_tree.specs.Shown as shown
use Rattle.ae_tree.specs.Plain.{Zeros}
use Rattle.ae_tree.specs.Limits.{KeepsRight}
use Rattle.ae_reading.specs.Reads.{Always}
use Rattle.ae_statements.proofs.from_reading.ReadsLemmas.{exits, took_as, failed_as}
use Rattle.ae_statements.specs.Productions.{with_semicolon, sized, made_side}
use Rattle.ae_statements.proofs.MadeLemmas.{zeros_along}
use Rattle.ae_statements.proofs.values.zeros.Goals as goal

pub returns-in_err-e : goal.returns-in_err-e
returns-in_err-e c = exits shown.right_side (made_side c.args.at) KeepsRight Always _ _ _
    (failed_as (made_side c.args.at) (with_semicolon sized) (λ e. Zeros e c.args.at)
    (zeros_along _ _ c.requires) c.in_err-e.ensures) c.from_residual.ensures.1

pub returns : goal.returns
returns c = took_as (made_side c.args.at) (with_semicolon sized) (λ e. Zeros e c.args.at)
    (zeros_along _ _ c.requires) c.in_ok-e.ensures
