use Rattle.std.proofs.Common.{map, ap, sym, ◌∙◌}
use Rattle.std.proofs.lemmas.List.{take_all}
use Rattle.ae_values.specs.Shown.{tree_shown, value_shown}
use Rattle.ae_values.proofs.ValueLemmas.{same_record}
use Rattle.ae_values.proofs.value.+copy.Goals as goal

pub Object::copy-returns-after-loop-field : goal.Object::copy-returns-after-loop-field
Object::copy-returns-after-loop-field t c =
    same_record c.in-Rec.class c.loop-field.copied c.in-Rec.fields c.in-Rec.height
    (c.loop-field.invariant ∙ ap (map value_shown)
    (take_all c.loop-field.field-index c.deref-field-items.result.now c.loop-field-test.false
    ∙ c.deref-field-items.ensures.value))
    ∙ ap tree_shown (sym c.in-Rec.is)
