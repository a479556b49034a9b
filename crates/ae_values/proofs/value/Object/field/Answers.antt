use Rattle.std.proofs.Common.{subst, ap, ◌∙◌, slice_get}
use Rattle.ae_values.specs.Shown.{IsMeasuredTree}
use Rattle.ae_values.proofs.ValueLemmas.{measured_fields, found_is_measured}
use Rattle.ae_values.proofs.value.Object.field.Goals as goal

pub returns-in-Rec-clause-measured : goal.returns-in-Rec-clause-measured
returns-in-Rec-clause-measured c = found_is_measured c.at.result c.in-Rec.fields.items c.args.number
    (measured_fields c.in-Rec.class c.in-Rec.fields c.in-Rec.height (subst IsMeasuredTree c.in-Rec.is c.requires))
    (c.at.ensures ∙ ap (λ xs. slice_get xs c.args.number) c.as_slice.ensures.value)
