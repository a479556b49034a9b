use Rattle.ae_levels.proofs.CostLemmas as lemma_costlemmas
use Rattle.ae_levels.proofs.from_steps.CostLemmas.{none_below}
use Rattle.ae_levels.proofs.laws.levels_cost_less.Goals as goal

pub returns : goal.returns
returns c = record {
  body_costs = lemma_costlemmas.body_costs;
  turn_costs = lemma_costlemmas.turn_costs;
  loop_costs = none_below;
}
