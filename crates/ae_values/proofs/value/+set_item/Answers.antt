use Rattle.std.proofs.Common.{rules, refl, ap, ◌∙◌, ◌≡◌, ◌∷◌, w64, to_z, of_z}
use Rattle.ae_values.specs.Shown.{shown, shown_tree}
use Rattle.ae_semantics.specs.Values.{Owned}
use Rattle.ae_values.specs.Inside.{item_changed}
use Rattle.ae_values.specs.declared.value.Object.TheViews.{the_lemmas}
use Rattle.ae_values.proofs.PutLemmas.{found_there}
use Rattle.ae_values.proofs.ItemLemmas.{record_with_item, record_without_item, record_measured_with_item}
use Rattle.ae_values.proofs.ItemLemmas.{object_with_item, object_stays_measured}
use Rattle.ae_values.proofs.value.+set_item.Goals as goal

pub Object::set_item_in_field-returns-in-Some-clause-value : goal.Object::set_item_in_field-returns-in-Some-clause-value
Object::set_item_in_field-returns-in-Some-clause-value t c =
    let same : to_z w64 (of_z w64 c.args.n) ≡ c.args.n = search rules in
    record_with_item c.args.self.now c.in-Rec.class _ c.in-Rec.fields _ _ c.in-Rec.height _ c.args.first
    c.in-Some.field.now c.set_item.new.self c.args.rest.now c.args.at c.args.n c.in-Rec.is
    (rw c.in-Rec.is (search (rules, the_lemmas))) c.in-Rec.fields-is
    (found_there c.in-Rec.fields _ c.args.first c.in-Some.field.now c.in-Rec.fields-is
    (c.in-Some.ensures.variant.0 refl)
    c.in-Some.ensures.value) refl
    (c.set_item.ensures.value ∙ ap (λ m. item_changed c.args.rest.now c.args.at m (shown c.in-Some.field.now))
    same)

pub Object::set_item_in_field-returns-in-Some-clause-measured :
    goal.Object::set_item_in_field-returns-in-Some-clause-measured
Object::set_item_in_field-returns-in-Some-clause-measured t c measured =
    let same : to_z w64 (of_z w64 c.args.n) ≡ c.args.n = search rules in
    record_measured_with_item c.args.self.now c.in-Rec.class _ c.in-Rec.fields _ _ c.in-Rec.height _ c.args.first
    c.in-Some.field.now c.set_item.new.self c.args.rest.now c.args.at c.args.n c.in-Rec.is c.in-Rec.fields-is
    c.in-Rec.height-is
    (found_there c.in-Rec.fields _ c.args.first c.in-Some.field.now c.in-Rec.fields-is
    (c.in-Some.ensures.variant.0 refl)
    c.in-Some.ensures.value) refl
    (c.set_item.ensures.value ∙ ap (λ m. item_changed c.args.rest.now c.args.at m (shown c.in-Some.field.now))
    same) c.set_item.ensures.measured measured

pub Object::set_item_in_field-returns-in-None-clause-value : goal.Object::set_item_in_field-returns-in-None-clause-value
Object::set_item_in_field-returns-in-None-clause-value t c =
    record_without_item c.args.self.now c.in-Rec.class _ c.in-Rec.fields _ c.in-Rec.height _ c.args.first
    c.args.rest.now c.args.at c.args.n c.in-Rec.is (rw c.in-Rec.is (search (rules, the_lemmas))) c.in-Rec.fields-is
    c.in-None.ensures.item.3

pub Val::set_item-returns-in-Object-clause-value : goal.Val::set_item-returns-in-Object-clause-value
Val::set_item-returns-in-Object-clause-value t c =
    let same : to_z w64 (of_z w64 c.args.n) ≡ c.args.n = search rules in
    object_with_item c.args.self.now c.in-Object.object _ c.deref_mut.result.now c.args.fields.now
    (c.in-Some.first.now ∷ c.in-Some.rest.now) c.args.at c.args.n c.in-Object.is c.deref_mut.ensures.value
    c.in-Some.ensures.cases.0
    (c.set_item_in_field.ensures.value ∙ ap (λ m. item_changed (c.in-Some.first.now ∷ c.in-Some.rest.now) c.args.at m
    (Owned (shown_tree c.deref_mut.result.now))) same)

pub Val::set_item-returns-in-Object-clause-measured : goal.Val::set_item-returns-in-Object-clause-measured
Val::set_item-returns-in-Object-clause-measured t c measured =
    object_stays_measured c.args.self.now c.in-Object.object _ c.deref_mut.result.now c.in-Object.is
    c.deref_mut.ensures.value c.set_item_in_field.ensures.measured measured
