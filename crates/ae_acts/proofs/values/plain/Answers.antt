use Rattle.std.proofs.Common.{◌≡◌, ◌∙◌, ap, rules}
use Rattle.ae_tree.specs.Plain.{Value}
use Rattle.ae_tree.specs.Shown.{expression, right_side}
use Rattle.ae_judge.specs.Tabled.{code_of}
use Rattle.ae_running.specs.Seen.{seen}
use Rattle.ae_acts.specs.Acts.{moved_out}
use Rattle.ae_acts.specs.Doing.{value_moved}
use Rattle.ae_acts.proofs.from_reads.OpenLemmas.{answers_equal}
use Rattle.ae_acts.proofs.ValueLemmas.{expression_goes}
use Rattle.ae_acts.proofs.values.plain.Goals as goal

pub returns-in-Expr-clause-done : goal.returns-in-Expr-clause-done
returns-in-Expr-clause-done c =
    let p = code_of c.args.tabled.now in
    let s = seen c.args.run.now in
    let e = expression c.in-Expr.expr in
    let is : right_side c.args.rhs.now ≡ Value e = search rules in
    answers_equal (moved_out p c.args.form.now (right_side c.args.rhs.now) s) (value_moved p c.args.form.now e s) _
    c.value_for.result (ap (λ r. moved_out p c.args.form.now r s) is ∙ expression_goes p s c.args.form.now e)
    c.value_for.ensures.done
