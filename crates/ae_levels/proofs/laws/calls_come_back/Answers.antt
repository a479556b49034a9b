use Rattle.ae_levels.proofs.CallLemmas as lemma_calllemmas
use Rattle.ae_levels.proofs.LeaveLemmas as lemma_leavelemmas
use Rattle.ae_levels.proofs.laws.calls_come_back.Goals as goal

pub returns : goal.returns
returns c = record {
  call_begins = lemma_calllemmas.call_begins c.runs_go_by_laws.ensures.steps;
  let_call_begins = lemma_calllemmas.let_call_begins c.runs_go_by_laws.ensures.steps;
  assign_call_begins = lemma_calllemmas.assign_call_begins c.runs_go_by_laws.ensures.steps;
  call_faults = lemma_calllemmas.call_faults c.runs_go_by_laws.ensures.entries;
  call_too_deep = lemma_calllemmas.call_too_deep c.runs_go_by_laws.ensures.entries;
  call_wants_fuel = lemma_calllemmas.call_wants_fuel c.runs_go_by_laws.ensures.entries;
  call_opens = lemma_calllemmas.call_opens c.runs_go_by_laws.ensures.entries;
  call_over = lemma_leavelemmas.call_over c.runs_go_by_laws.ensures.steps;
  back_faults = lemma_leavelemmas.back_faults c.runs_go_by_laws.ensures.steps;
}
