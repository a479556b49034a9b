use Rattle.ae_steps.proofs.CostLemmas.{steps_cost}
use Rattle.ae_steps.proofs.laws.steps_come_to_an_end.Goals as goal

pub returns : goal.returns
returns c = (steps_cost, steps_cost)
