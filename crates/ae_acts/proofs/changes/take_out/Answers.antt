use Rattle.std.specs.Prelude.{option_map}
use Rattle.ae_values.specs.Shown.{shown}
use Rattle.ae_acts.proofs.ChangeLemmas.{local_emptied}
use Rattle.ae_acts.proofs.changes.take_out.Goals as goal

pub returns-clause-left : goal.returns-clause-left
returns-clause-left c = local_emptied (option_map shown c.args.run.now.result) c.args.run.now.env c.take.new.self
    c.args.name c.take.ensures.left
