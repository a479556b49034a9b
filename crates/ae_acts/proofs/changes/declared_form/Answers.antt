use Rattle.std.proofs.Common.{ap, ◌∙◌, Some}
use Rattle.ae_values.specs.Environments.{running_binds}
use Rattle.ae_acts.proofs.ShapeLemmas.{form_there, form_undeclared, form_of_group, form_unbound}
use Rattle.ae_acts.proofs.changes.declared_form.Goals as goal

pub returns-in-Some-declared : goal.returns-in-Some-declared
returns-in-Some-declared c = ap Some c.with_perm.ensures
    ∙ form_there (running_binds c.args.env.now) c.args.name c.in-Some.bound.now c.in-Some-declared.perm
    c.in-Some-form_held.form c.in-Some.ensures.bound c.in-Some-form_held.ensures c.in-Some-declared.ensures

pub returns-in-None-declared : goal.returns-in-None-declared
returns-in-None-declared c = form_undeclared (running_binds c.args.env.now) c.args.name c.in-Some.bound.now
    c.in-Some.ensures.bound c.in-None-declared.ensures

pub returns-in-None-form_held : goal.returns-in-None-form_held
returns-in-None-form_held c = form_of_group (running_binds c.args.env.now) c.args.name c.in-Some.bound.now
    c.in-Some.ensures.bound c.in-None-form_held.ensures

pub returns-in-None : goal.returns-in-None
returns-in-None c = form_unbound (running_binds c.args.env.now) c.args.name c.in-None.ensures.bound
