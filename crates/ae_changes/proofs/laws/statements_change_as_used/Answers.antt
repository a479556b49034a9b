use Rattle.ae_changes.proofs.BodyLemmas.{statements_change_as_used}
use Rattle.ae_changes.proofs.laws.statements_change_as_used.Goals as goal

pub returns : goal.returns
returns c = statements_change_as_used (record {
  fields = c.fields_are_of_groups.ensures;
  values = c.values_are_found.ensures;
  simple = c.statements_without_calls_fit.ensures;
  gives = c.returns_give_results.ensures;
  stands = c.calls_keep_standing.ensures;
  keeps = c.statements_keep_what_is_visible.ensures;
  alike = c.comparisons_are_exact.ensures;
  right = c.judging_keeps_right.ensures;
  allowed = c.uses_are_allowed.ensures;
  acts = c.acts_change_as_used.ensures;
  calls = c.calls_change_as_used.ensures;
})
