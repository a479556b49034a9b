use Rattle.std.proofs.Common.{rules, refl, ap, sym, ◌∙◌, Some, None}
use Rattle.ae_rules.specs.Verdict.{given}
use Rattle.ae_values.specs.Shown.{shown}
use Rattle.ae_values.specs.declared.value.Object.TheViews.{the_lemmas}
use Rattle.ae_values.proofs.PutLemmas.{record_replaced, record_kept, found_there, not_there, inside_record}
use Rattle.ae_values.proofs.PutLemmas.{found_in_record}
use Rattle.ae_values.proofs.PutLemmas.{object_replaced, object_measured, record_measured}
use Rattle.ae_values.proofs.value.+replace.Goals as goal

pub Object::replace-returns-in-Some-clause-left : goal.Object::replace-returns-in-Some-clause-left
Object::replace-returns-in-Some-clause-left t c =
    record_replaced c.args.self.now c.in-Rec.class _ c.in-Rec.fields _ _ c.in-Rec.height _ c.args.first
    c.in-Some.field.now c.replace-old.new.self c.args.rest.now (shown c.args.new) c.in-Rec.is (rw c.in-Rec.is
    (search (rules, the_lemmas)))
    c.in-Rec.fields-is
    (found_there c.in-Rec.fields _ c.args.first c.in-Some.field.now c.in-Rec.fields-is
    (c.in-Some.ensures.variant.0 refl)
    c.in-Some.ensures.value)
    refl c.replace-old.ensures.left

pub Object::replace-returns-in-Some-clause-taken : goal.Object::replace-returns-in-Some-clause-taken
Object::replace-returns-in-Some-clause-taken t c =
    c.replace-old.ensures.taken ∙ ap (λ p. given p (shown c.args.new) (λ v. v))
    (sym (inside_record c.args.self.now c.in-Rec.class c.in-Rec.fields c.in-Rec.height c.args.first
    (Some c.in-Some.field.now) c.args.rest.now c.in-Rec.is
    (found_there c.in-Rec.fields _ c.args.first c.in-Some.field.now c.in-Rec.fields-is
    (c.in-Some.ensures.variant.0 refl)
    c.in-Some.ensures.value)))

pub Object::replace-returns-in-Some-clause-taken_measured : goal.Object::replace-returns-in-Some-clause-taken_measured
Object::replace-returns-in-Some-clause-taken_measured t c old new =
    c.replace-old.ensures.taken_measured (found_in_record c.args.self.now c.in-Rec.class c.in-Rec.fields c.in-Rec.height
    c.args.first c.in-Some.field.now c.in-Rec.is
    (found_there c.in-Rec.fields _ c.args.first c.in-Some.field.now c.in-Rec.fields-is
    (c.in-Some.ensures.variant.0 refl)
    c.in-Some.ensures.value) old) new

pub Object::replace-returns-in-Some-clause-measured : goal.Object::replace-returns-in-Some-clause-measured
Object::replace-returns-in-Some-clause-measured t c old new room =
    record_measured c.args.self.now c.in-Rec.class _ c.in-Rec.fields _ _ c.in-Rec.height _ c.height_after.result
    c.stored-before.result c.stored-after.result c.args.first c.in-Some.field.now c.replace-old.new.self c.args.rest.now
    (shown c.args.new) c.as_slice.result.now c.in-Rec.is c.in-Rec.fields-is c.in-Rec.height-is
    (found_there c.in-Rec.fields _ c.args.first c.in-Some.field.now c.in-Rec.fields-is
    (c.in-Some.ensures.variant.0 refl)
    c.in-Some.ensures.value) refl
    c.as_slice.ensures.value c.replace-old.ensures.left c.stored-before.ensures
    (λ field low. c.replace-old.ensures.measured field new low) c.stored-after.ensures c.height_after.ensures old room

pub Object::replace-returns-in-None-clause-left : goal.Object::replace-returns-in-None-clause-left
Object::replace-returns-in-None-clause-left t c =
    record_kept c.args.self.now c.in-Rec.class _ c.in-Rec.fields _ c.in-Rec.height _ c.args.first c.args.rest.now
    (shown c.args.new) c.in-Rec.is (rw c.in-Rec.is (search
    (rules, the_lemmas))) c.in-Rec.fields-is c.in-None.ensures.item.3

pub Object::replace-returns-in-None-clause-taken : goal.Object::replace-returns-in-None-clause-taken
Object::replace-returns-in-None-clause-taken t c =
    ap (λ p. given p (shown c.args.new) (λ v. v))
    (sym (inside_record c.args.self.now c.in-Rec.class c.in-Rec.fields c.in-Rec.height c.args.first
    None c.args.rest.now c.in-Rec.is
    (not_there c.in-Rec.fields _ c.args.first c.in-Rec.fields-is c.in-None.ensures.item.3)))

pub Val::replace-returns-in-Object-clause-left : goal.Val::replace-returns-in-Object-clause-left
Val::replace-returns-in-Object-clause-left t c =
    object_replaced c.args.self.now c.in-Object.object _ c.deref_mut.result.now c.args.fields.now c.in-Some.first.now
    c.in-Some.rest.now (shown c.args.new) c.in-Object.is c.deref_mut.ensures.value c.in-Some.ensures.cases.0
    c.replace.ensures.left

pub Val::replace-returns-in-Object-clause-measured : goal.Val::replace-returns-in-Object-clause-measured
Val::replace-returns-in-Object-clause-measured t c old new room =
    object_measured c.args.self.now c.in-Object.object _ c.deref_mut.result.now c.args.fields.now c.in-Some.first.now
    c.in-Some.rest.now (shown c.args.new) c.in-Object.is c.deref_mut.ensures.value c.in-Some.ensures.cases.0
    (λ tree low. c.replace.ensures.measured tree new low) old room
