use Rattle.ae_values.specs.Environments.{bound_under}
use Rattle.ae_frames.proofs.LendLemmas.{lent_is_placed}
use Rattle.ae_frames.proofs.lending.lend_for.Goals as goal

pub returns-in-Some-clause-bound : goal.returns-in-Some-clause-bound
returns-in-Some-clause-bound c = lent_is_placed c.args.new.now c.args.earlier.now c.args.env.now c.args.group
    c.holder-name.result c.first_need-first.result (bound_under c.lend_one.new.env) c.holder-name.ensures
    c.first_need-first.ensures c.lend_one.ensures.bound

pub returns-in-None-clause-bound : goal.returns-in-None-clause-bound
returns-in-None-clause-bound c = lent_is_placed c.args.new.now c.args.earlier.now c.args.env.now c.args.group
    c.holder-name.result c.first_need-first.result (bound_under c.lend_one.new.env) c.holder-name.ensures
    c.first_need-first.ensures c.lend_one.ensures.bound
