use Rattle.std.specs.Prelude.{option_map}
use Rattle.ae_values.specs.Shown.{shown}
use Rattle.ae_acts.proofs.ChangeLemmas.{local_gets}
use Rattle.ae_acts.proofs.changes.assign.Goals as goal

pub returns-in_ok-low-in-Some-clause-done : goal.returns-in_ok-low-in-Some-clause-done
returns-in_ok-low-in-Some-clause-done c = local_gets (option_map shown c.args.run.now.result) c.args.run.now.env
    c.assign.new.self c.args.name c.args.value c.in-Some.field-0 c.in-Some.ensures c.in_ok-low-in-Some.ensures
    c.assign.ensures.bound
