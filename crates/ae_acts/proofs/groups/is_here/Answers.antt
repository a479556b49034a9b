use Rattle.std.proofs.Common.{ap}
use Rattle.std.specs.Prelude.{is_some, option_map}
use Rattle.ae_values.specs.Shown.{shown}
use Rattle.ae_reads.specs.Answers.{one_name}
use Rattle.ae_acts.proofs.groups.is_here.Goals as goal

pub returns-in-Some : goal.returns-in-Some
returns-in-Some c = ap is_some (c.in-Some.ensures one_name (option_map shown c.args.run.now.result))

pub returns-in-None : goal.returns-in-None
returns-in-None c = ap is_some (c.in-None.ensures one_name (option_map shown c.args.run.now.result))
