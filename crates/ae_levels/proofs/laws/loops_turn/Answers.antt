use Rattle.ae_levels.proofs.LoopLemmas as lemma_looplemmas
use Rattle.ae_levels.proofs.laws.loops_turn.Goals as goal

pub returns : goal.returns
returns c = record {
  loop_opens = lemma_looplemmas.loop_opens c.runs_go_by_laws.ensures.steps;
  loop_goes_on = lemma_looplemmas.loop_goes_on c.runs_go_by_laws.ensures.steps;
  loop_over = lemma_looplemmas.loop_over c.runs_go_by_laws.ensures.steps;
  loop_wants_fuel = lemma_looplemmas.loop_wants_fuel c.runs_go_by_laws.ensures.steps;
  loop_faults = lemma_looplemmas.loop_faults c.runs_go_by_laws.ensures.steps;
}
