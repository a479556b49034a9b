use Rattle.ae_needs.proofs.BodyLemmas.{statements_read_what_they_use}
use Rattle.ae_needs.proofs.laws.statements_read_what_they_use.Goals as goal

pub returns : goal.returns
returns c = statements_read_what_they_use
    (record {
      fields = c.fields_are_of_groups.ensures;
      values = c.values_are_found.ensures;
      simple = c.statements_without_calls_fit.ensures.0;
      gives = c.returns_give_results.ensures.0.0;
      keeps = c.statements_keep_what_is_visible.ensures;
      alike = c.comparisons_are_exact.ensures;
      right = c.judging_keeps_right.ensures;
      calls_keep = c.calls_keep_standing.ensures.0;
      uses = record { allowed = c.uses_are_allowed.ensures; lines = c.lines_add_what_they_declare.ensures };
      changes = c.changes_are_used.ensures;
      acts = c.acts_read_what_they_use.ensures.0;
      calls_read = c.calls_read_what_they_use.ensures.0;
    })
    (record {
      fields = c.fields_are_of_groups.ensures;
      values = c.values_are_found.ensures;
      simple = c.statements_without_calls_fit.ensures.1;
      gives = c.returns_give_results.ensures.0.1;
      keeps = c.statements_keep_what_is_visible.ensures;
      alike = c.comparisons_are_exact.ensures;
      right = c.judging_keeps_right.ensures;
      calls_keep = c.calls_keep_standing.ensures.1;
      uses = record { allowed = c.uses_are_allowed.ensures; lines = c.lines_add_what_they_declare.ensures };
      changes = c.changes_are_used.ensures;
      acts = c.acts_read_what_they_use.ensures.1;
      calls_read = c.calls_read_what_they_use.ensures.1;
    })
