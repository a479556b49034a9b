use Rattle.std.proofs.Common.{subst, sym, ◌∙◌}
use Rattle.ae_tree.specs.declared.form.Form.{Form}
use Rattle.ae_semantics.specs.Places.{open_form}
use Rattle.ae_values.specs.Shown.{shown}
use Rattle.ae_judge.specs.Tabled.{code_of}
use Rattle.ae_reads.specs.Answers.{ReadsAs, state_seen}
use Rattle.ae_reads.specs.Views.{opened_as_form}
use Rattle.ae_reads.proofs.places.open.Goals as goal

pub returns-in-Object : goal.returns-in-Object
returns-in-Object c = λ at.
    let p = code_of c.args.tabled.now in
    subst (λ (x : Form). ReadsAs (open_form p (state_seen c.args.env.now) at x (shown c.args.place.now.value.now))
    (opened_as_form at x) c.open_value.result) (sym c.in-Object.is ∙ c.get.ensures)
    (c.open_value.ensures p c.class_known-fields.ensures.fields at)
