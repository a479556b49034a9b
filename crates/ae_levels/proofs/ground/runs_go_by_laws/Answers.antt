use Rattle.ae_levels.proofs.ground.runs_go_by_laws.Goals as goal

pub returns : goal.returns
returns c = record {
  steps = c.stacks_are_done_step_by_step.ensures.1;
  ends = c.names_end_with_a_block.ensures;
  known = c.names_are_known.ensures;
  free = c.declared_names_are_free.ensures;
  keeps = c.statements_keep_what_is_visible.ensures;
  acts = c.acts_are_the_meaning.ensures.1;
  entries = c.calls_are_entered.ensures;
}
