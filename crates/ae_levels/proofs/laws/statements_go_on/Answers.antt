use Rattle.ae_levels.proofs.ActLemmas as lemma_actlemmas
use Rattle.ae_levels.proofs.BeginLemmas as lemma_beginlemmas
use Rattle.ae_levels.proofs.laws.statements_go_on.Goals as goal

pub returns : goal.returns
returns c = record {
  begun = lemma_beginlemmas.begun c.runs_go_by_laws.ensures;
  act_goes_on = lemma_actlemmas.act_goes_on c.runs_go_by_laws.ensures;
  act_faults = lemma_actlemmas.act_faults c.runs_go_by_laws.ensures;
}
