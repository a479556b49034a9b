use Rattle.std.specs.Prelude.{option_map}
use Rattle.ae_values.specs.Environments.{running_binds}
use Rattle.ae_values.specs.Shown.{shown}
use Rattle.ae_acts.proofs.ChangeLemmas.{local_declared}
use Rattle.ae_acts.proofs.from_names.AfterLemmas.{nothing_bound}
use Rattle.ae_acts.proofs.changes.declare.Goals as goal

pub declare-requires-clause-new : goal.declare-requires-clause-new
declare-requires-clause-new c = nothing_bound (running_binds c.args.run.now.env) c.args.name c.requires.free

pub returns-in-Ok-clause-done : goal.returns-in-Ok-clause-done
returns-in-Ok-clause-done c = local_declared (option_map shown c.args.run.now.result) c.args.run.now.env
    c.declare.new.self c.args.name c.args.value c.args.form
    (nothing_bound (running_binds c.args.run.now.env) c.args.name c.requires.free) c.in_ok-low.ensures
    c.in-Ok.ensures.bound
