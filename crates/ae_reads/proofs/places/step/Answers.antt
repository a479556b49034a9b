use Rattle.std.proofs.Common.{ap, sym, ◌∙◌}
use Rattle.ae_tree.specs.declared.form.Form.{Form}
use Rattle.ae_semantics.specs.Places.{open_form, open_place, into_field, OpenedObject, Outcome, ◌>>=◌}
use Rattle.ae_values.specs.Shown.{shown}
use Rattle.ae_judge.specs.Tabled.{code_of}
use Rattle.ae_reads.specs.Answers.{state_seen}
use Rattle.ae_reads.specs.Views.{place_at, stepped_at}
use Rattle.ae_reads.proofs.OpenLemmas.{answers_equal}
use Rattle.ae_reads.proofs.WalkLemmas.{faults_go_on, faults_equal}
use Rattle.ae_reads.proofs.places.step.Goals as goal

pub returns-in-Err : goal.returns-in-Err
returns-in-Err c = λ at.
    let p = code_of c.args.tabled.now in
    let s = state_seen c.args.env.now in
    let v = shown c.args.from.now.value.now in
    faults_go_on (open_place p s (place_at at c.args.from.now)) (λ o. into_field p o c.args.x.name) c.in-Err.stop
    (faults_equal (open_place p s (place_at at c.args.from.now))
    _ c.in-Err.stop
    (ap (λ (f : Form). open_form p s at f v) (sym c.get.ensures ∙ c.in-Object.is))
    (c.in-Err.ensures p c.class_known-fields.ensures.fields at))

pub returns-in-Ok : goal.returns-in-Ok
returns-in-Ok c = λ at.
    let p = code_of c.args.tabled.now in
    let s = state_seen c.args.env.now in
    let v = shown c.args.from.now.value.now in
    answers_equal _ _ (stepped_at at) c.into_field.result
    (ap (λ (o : Outcome OpenedObject). o >>= λ y. into_field p y c.args.x.name)
    (ap (λ (f : Form). open_form p s at f v) (sym c.get.ensures ∙ c.in-Object.is)
    ∙ c.in-Ok.ensures p c.class_known-fields.ensures.fields at))
    (c.into_field.ensures at)
