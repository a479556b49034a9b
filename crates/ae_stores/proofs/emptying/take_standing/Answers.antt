use Rattle.std.proofs.Common.{option_map}
use Rattle.ae_values.specs.Shown.{shown}
use Rattle.ae_reads.specs.Answers.{one_name}
use Rattle.ae_stores.proofs.emptying.take_standing.Goals as goal

pub returns-clause-meant : goal.returns-clause-meant
returns-clause-meant c = c.take_in_local.ensures.nulled one_name (option_map shown c.args.run.now.result)

pub returns-clause-value : goal.returns-clause-value
returns-clause-value c = c.take_in_local.ensures.standing one_name (option_map shown c.args.run.now.result)
