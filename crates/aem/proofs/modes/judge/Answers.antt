use Rattle.ae_tree.specs.Shown.{code as plain}
use Rattle.aem.proofs.Whole.{table_refusal_is_found, verdict_is_found}
use Rattle.aem.proofs.modes.judge.Goals as goal

pub returns-in-Err : goal.returns-in-Err
returns-in-Err c = table_refusal_is_found c.broken_rules_are_of_the_language.ensures (plain c.args.program)
    c.in-Err.deny c.in-Err.ensures.answer

pub returns : goal.returns
returns c = verdict_is_found c.broken_rules_are_of_the_language.ensures c.args.program c.check_program.result
    c.check_program.ensures.answer c.check_program.ensures.program
