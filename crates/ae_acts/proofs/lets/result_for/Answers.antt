use Rattle.std.proofs.Common.{◌≡◌, ◌∙◌, ap, rules, Some}
use Rattle.ae_tree.specs.Shown.{expression, definition}
use Rattle.ae_judge.specs.Tabled.{code_of}
use Rattle.ae_running.specs.Seen.{seen}
use Rattle.ae_acts.specs.Doing.{value_moved, result_of}
use Rattle.ae_acts.proofs.from_reads.OpenLemmas.{answers_equal}
use Rattle.ae_acts.proofs.ValueLemmas.{result_typed}
use Rattle.std.proofs.Common.{sym}
use Rattle.ae_acts.proofs.lets.result_for.Goals as goal

pub returns-in_ok-form-in-Some-clause-done : goal.returns-in_ok-form-in-Some-clause-done
returns-in_ok-form-in-Some-clause-done c =
    let p = code_of c.args.tabled.now in
    let s = seen c.args.run.now in
    let e = expression c.args.expr.now in
    let m = definition c.args.method.now in
    let is : c.args.method.now.result ≡ Some c.in-Some.ty = search rules in
    answers_equal (result_of p m e s) (value_moved p c.in_ok-form-in-Some.form e s) _ c.value_for.result
    (result_typed p s m e c.in-Some.ty is
    ∙ ap (λ f. value_moved p f e s) (sym c.in_ok-form-in-Some.ensures.form))
    c.value_for.ensures.done
