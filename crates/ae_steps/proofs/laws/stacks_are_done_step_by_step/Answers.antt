use Rattle.ae_steps.proofs.StepLemmas.{first_is_done}
use Rattle.ae_steps.proofs.laws.stacks_are_done_step_by_step.Goals as goal

pub returns : goal.returns
returns c = (first_is_done, first_is_done)
