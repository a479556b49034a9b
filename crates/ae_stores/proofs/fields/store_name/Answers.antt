use Rattle.std.proofs.Common.{◌≡◌, refl, ap, sym, subst, ◌∙◌, true, rules}
use Rattle.ae_tree.specs.Shown.{expression}
use Rattle.ae_semantics.specs.Places.{◌>>=◌, write, Fine}
use Rattle.ae_semantics.specs.Calls.{without_moved}
use Rattle.ae_semantics.specs.Meaning.{stored, name_moved}
use Rattle.ae_judge.specs.Tabled.{code_of}
use Rattle.ae_values.specs.Shown.{shown}
use Rattle.ae_reads.specs.Views.{base_of}
use Rattle.ae_running.specs.Seen.{seen}
use Rattle.ae_stores.specs.Parts.{slot_at}
use Rattle.ae_stores.specs.Stand.{KeepsObject, moved_into}
use Rattle.ae_stores.specs.Targets.{field_aimed}
use Rattle.ae_stores.proofs.from_reads.WalkLemmas.{faults_go_on, faults_equal}
use Rattle.ae_stores.proofs.ChangeLemmas.{changes_equal, some_is}
use Rattle.ae_stores.proofs.SlotLemmas.{slot_is_there, slot_keeps_object}
use Rattle.ae_stores.proofs.NameLemmas.{name_is_stored, stored_as_moved}
use Rattle.ae_stores.proofs.fields.store_name.Goals as goal

pub returns-in-Err-clause-changes : goal.returns-in-Err-clause-changes
returns-in-Err-clause-changes c =
    let p = code_of c.args.tabled.now in
    let s = seen c.args.run.now in
    let path = c.args.path.now in
    let e = expression c.args.expr.now in
    let passed : c.has_value.result ≡ true = search rules in
    let b = some_is (s.locals c.args.name) (sym c.has_value.ensures ∙ passed) in (
      faults_equal (stored p path e s)
          (field_aimed p s path >>= λ x. write s x.at b.0.value >>= λ t. Fine (without_moved (name_moved x.form e) t))
          c.in-Err.stop (name_is_stored p s path e c.args.name b.0 c.requires.alone b.1)
          (faults_go_on (field_aimed p s path)
          (λ x. write s x.at b.0.value >>= λ t. Fine (without_moved (name_moved x.form e) t)) c.in-Err.stop
          c.in-Err.ensures),
      refl,
    )

pub move_in-requires-clause-there : goal.move_in-requires-clause-there
move_in-requires-clause-there c = slot_is_there (code_of c.args.tabled.now) (seen c.args.run.now) c.args.path.now
    (slot_at c.find_field.new.fields.items c.in-Ok.slot) c.in-Ok.ensures

pub move_in-requires-clause-object : goal.move_in-requires-clause-object
move_in-requires-clause-object c = λ new. subst (λ is. KeepsObject is new) (sym c.as_slice.ensures.value)
    (slot_keeps_object (code_of c.args.tabled.now) (seen c.args.run.now) c.args.path.now
    (slot_at c.find_field.new.fields.items c.in-Ok.slot) new c.in-Ok.ensures)

pub put-requires-clause-there : goal.put-requires-clause-there
put-requires-clause-there c = slot_is_there (code_of c.args.tabled.now) (seen c.args.run.now) c.args.path.now
    (slot_at c.find_field.new.fields.items c.in-Ok.slot) c.in-Ok.ensures

pub put-requires-clause-object : goal.put-requires-clause-object
put-requires-clause-object c = subst (λ is. KeepsObject is (shown c.in-Ok-value_of.value))
    (sym c.as_slice-in-None.ensures.value)
    (slot_keeps_object (code_of c.args.tabled.now) (seen c.args.run.now) c.args.path.now
    (slot_at c.find_field.new.fields.items c.in-Ok.slot) (shown c.in-Ok-value_of.value) c.in-Ok.ensures)

pub returns-in-Some-clause-changes : goal.returns-in-Some-clause-changes
returns-in-Some-clause-changes c =
    let p = code_of c.args.tabled.now in
    let s = seen c.args.run.now in
    let path = c.args.path.now in
    let e = expression c.args.expr.now in
    let x = c.args.name in
    let to = slot_at c.find_field.new.fields.items c.in-Ok.slot in
    let b = base_of c.in-Ok.slot.base in
    let passed : c.has_value.result ≡ true = search rules in
    let l = some_is (s.locals x) (sym c.has_value.ensures ∙ passed) in
    changes_equal (stored p path e s) (moved_into s x b c.as_slice.result.now) c.args.run.now c.move_in.new.run
    c.move_in.result
    (stored_as_moved p s path e x _ l.0 to c.requires.alone l.1 c.in-Ok.ensures
    (sym c.name_into.ensures ∙ c.in-Some.is)
    ∙ ap (moved_into s x b) (sym c.as_slice.ensures.value))
    c.move_in.ensures.changes
