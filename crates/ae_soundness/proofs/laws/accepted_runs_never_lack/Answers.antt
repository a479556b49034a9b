use Rattle.ae_soundness.proofs.BodyLemmas.{accepted_runs_never_lack}
use Rattle.ae_soundness.proofs.laws.accepted_runs_never_lack.Goals as goal

pub returns : goal.returns
returns c = accepted_runs_never_lack (record {
  fields = c.fields_are_of_groups.ensures;
  values = c.values_are_found.ensures;
  simple = c.statements_without_calls_fit.ensures;
  gives = c.returns_give_results.ensures;
  keeps = c.statements_keep_what_is_visible.ensures;
  alike = c.comparisons_are_exact.ensures;
  right = c.judging_keeps_right.ensures;
  begins = c.beginnings_fit.ensures;
}) c.calls_keep_standing.ensures.0 c.calls_keep_standing.ensures.1
