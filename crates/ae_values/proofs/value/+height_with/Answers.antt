use Rattle.std.proofs.Common.{ap, sym, ◌∙◌, slice_get}
use Rattle.ae_values.proofs.PutLemmas.{record_height_with, record_height_kept}
use Rattle.ae_values.proofs.value.+height_with.Goals as goal

pub Object::height_with_in_field-returns-in-Some : goal.Object::height_with_in_field-returns-in-Some
Object::height_with_in_field-returns-in-Some t c measured new high =
    record_height_with c.args.self.now c.in-Rec.class c.in-Rec.fields c.in-Rec.own c.stored.result
    c.height_with-after.result c.height_after.result c.args.first c.in-Some.field.now c.args.rest.now new
    c.as_slice-in-Some.result.now c.in-Rec.is
    (ap (λ us. slice_get us c.args.first) (sym c.as_slice.ensures.value) ∙ sym c.in-Some.ensures)
    c.as_slice-in-Some.ensures.value c.stored.ensures
    (λ field. c.height_with-after.ensures field new high) c.height_after.ensures measured

pub Object::height_with_in_field-returns-in-None : goal.Object::height_with_in_field-returns-in-None
Object::height_with_in_field-returns-in-None t c measured new high =
    record_height_kept c.args.self.now c.in-Rec.class c.in-Rec.fields c.in-Rec.own c.stored-in-None.result c.args.first
    c.args.rest.now new c.in-Rec.is
    (ap (λ us. slice_get us c.args.first) (sym c.as_slice.ensures.value) ∙ sym c.in-None.ensures)
    c.stored-in-None.type_inv (c.stored-in-None.ensures measured)
