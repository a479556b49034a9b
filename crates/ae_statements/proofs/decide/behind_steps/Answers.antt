use Rattle.ae_statements.proofs.SideLemmas.{through_none, through_more, through_smaller, through_all}
use Rattle.ae_statements.proofs.decide.behind_steps.Goals as goal

pub steps-init : goal.steps-init
steps-init c = through_none _

pub steps-smaller : goal.steps-smaller
steps-smaller c = through_smaller _ _ c.in-Some.ensures

pub steps-preserved : goal.steps-preserved
steps-preserved c = through_more _ _ _ c.steps.invariant c.in-Some.ensures

pub returns : goal.returns
returns c = through_all _ _ c.steps.invariant c.in_default.ensures
