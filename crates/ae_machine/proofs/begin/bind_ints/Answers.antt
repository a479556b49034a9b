use Rattle.std.proofs.Common.{sym, ap, ◌∙◌}
use Rattle.std.specs.Prelude.{slice_get}
use Rattle.ae_tree.specs.Shown.{definition}
use Rattle.ae_machine.specs.Tasks.{code_in}
use Rattle.ae_machine.proofs.BeginLemmas.{main_bound}
use Rattle.ae_machine.proofs.TaskLemmas.{then_ok}
use Rattle.ae_machine.proofs.begin.bind_ints.Goals as goal

pub returns-in_ok-form-in-Some-clause-state : goal.returns-in_ok-form-in-Some-clause-state
returns-in_ok-form-in-Some-clause-state c = then_ok c.declare.result
    (λ bound. main_bound c.binds_change_one_name.ensures (code_in c.args.task.now) (definition c.args.method.now)
    c.args.task.now.ints.now c.args.run.now c.declare.new.self c.in-Some.param.now c.in-Ok.value
    c.in_ok-form-in-Some.form c.requires.untouched c.requires.begins
    (sym (c.in-Some.ensures.value ∙ ap (λ xs. slice_get xs 0) c.as_slice.ensures)) c.in-Ok.ensures.value
    c.in_ok-form-in-Some.ensures bound)
    c.declare.ensures.bound
