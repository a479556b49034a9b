use Rattle.aem.proofs.OneAnswer.{one_answer}
use Rattle.aem.proofs.Complete.{accepted_is_answered}
use Rattle.aem.proofs.top.answers_are_unique.Goals as goal

pub returns-clause-one : goal.returns-clause-one
returns-clause-one c =
    one_answer (record {
      tokens = c.tokens_are_unique.ensures;
      fault = c.faults_are_unique.ensures.one;
      no_tokens = c.faults_are_unique.ensures.no_tokens;
      refusal = c.refusals_are_unique.ensures;
      not_refused = c.programs_are_not_refused.ensures;
      program = c.tokens_stand_for_one_program.ensures;
      never_both = c.programs_are_never_both.ensures;
      first = c.first_broken_rule_is_one.ensures;
    })

pub returns-clause-answered : goal.returns-clause-answered
returns-clause-answered c =
    accepted_is_answered (record {
      tokens = c.tokens_are_unique.ensures;
      fault = c.faults_are_unique.ensures.one;
      no_tokens = c.faults_are_unique.ensures.no_tokens;
      refusal = c.refusals_are_unique.ensures;
      not_refused = c.programs_are_not_refused.ensures;
      program = c.tokens_stand_for_one_program.ensures;
      never_both = c.programs_are_never_both.ensures;
      first = c.first_broken_rule_is_one.ensures;
    })
