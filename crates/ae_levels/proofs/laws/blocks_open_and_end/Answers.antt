use Rattle.ae_levels.proofs.BlockLemmas as lemma_blocklemmas
use Rattle.ae_levels.proofs.OpenLemmas as lemma_openlemmas
use Rattle.ae_levels.proofs.laws.blocks_open_and_end.Goals as goal

pub returns : goal.returns
returns c = record {
  block_over = lemma_blocklemmas.block_over c.runs_go_by_laws.ensures.steps c.runs_go_by_laws.ensures.ends;
  if_opens = lemma_openlemmas.if_opens c.runs_go_by_laws.ensures.steps;
  if_passes = lemma_openlemmas.if_passes c.runs_go_by_laws.ensures.steps;
  if_faults = lemma_openlemmas.if_faults c.runs_go_by_laws.ensures.steps;
  else_opens = lemma_openlemmas.else_opens c.runs_go_by_laws.ensures.steps;
  else_faults = lemma_openlemmas.else_faults c.runs_go_by_laws.ensures.steps;
}
