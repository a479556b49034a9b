use Rattle.std.proofs.Common.{◌∙◌, ap, sym}
use Rattle.ae_tree.specs.Shown.{right_side}
use Rattle.ae_judge.specs.Tabled.{code_of}
use Rattle.ae_names.specs.Known.{form_in}
use Rattle.ae_semantics.specs.Values.{Val}
use Rattle.ae_semantics.specs.Places.{Outcome, ◌>>=◌, State}
use Rattle.ae_values.specs.Shown.{shown}
use Rattle.ae_running.specs.Seen.{seen}
use Rattle.ae_acts.specs.Acts.{put_again}
use Rattle.ae_acts.specs.Doing.{forms_of, assigned_to}
use Rattle.ae_acts.proofs.from_reads.OpenLemmas.{answers_equal}
use Rattle.ae_acts.proofs.ValueLemmas.{put_by_form}
use Rattle.ae_acts.proofs.lets.assigns.Goals as goal

pub returns-in_ok-value-in-Some-clause-done : goal.returns-in_ok-value-in-Some-clause-done
returns-in_ok-value-in-Some-clause-done c =
    let p = code_of c.args.tabled.now in
    let s = seen c.args.run.now in
    let e = right_side c.args.rhs.now in
    let x = c.args.name in
    let forms = forms_of c.args.run.now in
    let value = shown c.in_ok-value-in-Some.value in
    let t = seen c.right.new.run in
    answers_equal (put_again p forms x e s) (assigned_to (forms_of c.right.new.run) x value t) _ c.assign.result
    (put_by_form p s forms x e c.in-Some.form c.in-Some.ensures
    ∙ ap (λ (o : Outcome (Val × State)). o >>= λ (r : Val × State). assigned_to forms x r.0 r.1)
    c.in_ok-value-in-Some.ensures.done
    ∙ ap (λ names. assigned_to (form_in names) x value t) (sym c.right.ensures.stays.names))
    c.assign.ensures.done
