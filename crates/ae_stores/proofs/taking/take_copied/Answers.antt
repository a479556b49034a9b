use Rattle.std.proofs.Common.{◌≡◌, refl, ap, sym, subst, ◌∙◌, false}
use Rattle.ae_rules.specs.Lookups.{is_empty}
use Rattle.ae_semantics.specs.Values.{Null}
use Rattle.ae_semantics.specs.Places.{Fine, State, ◌>>=◌, write_in}
use Rattle.ae_semantics.specs.Meaning as spec
use Rattle.ae_judge.specs.Tabled.{code_of}
use Rattle.ae_values.specs.declared.value.Val.TheVariants as v
use Rattle.ae_values.specs.Shown.{shown, shown-Null, ShownValue}
use Rattle.ae_reads.specs.Views.{base_of}
use Rattle.ae_running.specs.Seen.{seen}
use Rattle.ae_stores.specs.Parts.{value_found}
use Rattle.ae_stores.specs.Stand.{KeepsObject}
use Rattle.ae_stores.specs.Targets.{value_aimed}
use Rattle.ae_stores.proofs.from_reads.WalkLemmas.{faults_go_on, faults_equal}
use Rattle.ae_stores.proofs.TakeLemmas.{cleared, taken_by_value, last_is_there, value_keeps_object, value_is_there}
use Rattle.ae_stores.proofs.taking.take_copied.Goals as goal

pub returns-in-Err-clause-takes : goal.returns-in-Err-clause-takes
returns-in-Err-clause-takes c =
    let p = code_of c.args.tabled.now in
    let s = seen c.args.run.now in
    let path = c.args.path.now in
    let has : is_empty path.steps ≡ false = sym c.is_name.ensures ∙ c.if-is_name.false in
    let l = last_is_there path.steps has in (
      faults_equal (spec.take_field p s path) (value_aimed p s path >>= cleared s) c.in-Err.stop
          (taken_by_value p s path l.0 l.1)
          (faults_go_on (value_aimed p s path) (cleared s) c.in-Err.stop c.in-Err.ensures.value),
      refl,
    )

pub put-requires-clause-new : goal.put-requires-clause-new
put-requires-clause-new c = ap (λ (y : ShownValue). y.measured) shown-Null

pub put-requires-clause-there : goal.put-requires-clause-there
put-requires-clause-there c = value_is_there (code_of c.args.tabled.now) (seen c.args.run.now) c.args.path.now
    (value_found c.find_value.new.fields.items c.in-Ok.found) c.in-Ok.ensures.value

pub put-requires-clause-object : goal.put-requires-clause-object
put-requires-clause-object c =
    let path = c.args.path.now in
    let has : is_empty path.steps ≡ false = sym c.is_name.ensures ∙ c.if-is_name.false in
    let l = last_is_there path.steps has in
    subst (λ is. KeepsObject is (shown v.Null)) (sym c.as_slice.ensures.value)
    (value_keeps_object (code_of c.args.tabled.now) (seen c.args.run.now) path l.0
    (value_found c.find_value.new.fields.items c.in-Ok.found) (shown v.Null) l.1 c.in-Ok.ensures.value)

pub returns-in-Ok-put-clause-takes : goal.returns-in-Ok-put-clause-takes
returns-in-Ok-put-clause-takes c =
    let p = code_of c.args.tabled.now in
    let s = seen c.args.run.now in
    let path = c.args.path.now in
    let b = base_of c.in-Ok.found.base in
    let has : is_empty path.steps ≡ false = sym c.is_name.ensures ∙ c.if-is_name.false in
    let l = last_is_there path.steps has in
    taken_by_value p s path l.0 l.1
    ∙ ap (λ o. o >>= cleared s) c.in-Ok.ensures.value
    ∙ ap (λ is. write_in s b is Null >>= λ t. Fine (shown c.in-Ok.found.value, t)) (sym c.as_slice.ensures.value)
    ∙ ap (λ (y : ShownValue). write_in s b c.as_slice.result.now y.value >>= λ t. Fine (shown c.in-Ok.found.value, t))
    (sym shown-Null)
    ∙ ap (λ o. o >>= λ (t : State). Fine (shown c.in-Ok.found.value, t)) c.in-Ok-put.ensures.changes

pub returns-clause-takes : goal.returns-clause-takes
returns-clause-takes c =
    let p = code_of c.args.tabled.now in
    let s = seen c.args.run.now in
    let path = c.args.path.now in
    let b = base_of c.in-Ok.found.base in
    let has : is_empty path.steps ≡ false = sym c.is_name.ensures ∙ c.if-is_name.false in
    let l = last_is_there path.steps has in
    let o = write_in s b c.as_slice.result.now (shown v.Null) in (
      faults_equal (spec.take_field p s path) (o >>= λ (t : State). Fine (shown c.in-Ok.found.value, t))
          c.in-Err-put.stop
          (taken_by_value p s path l.0 l.1
          ∙ ap (λ o. o >>= cleared s) c.in-Ok.ensures.value
          ∙ ap (λ is. write_in s b is Null >>= λ t. Fine (shown c.in-Ok.found.value, t)) (sym c.as_slice.ensures.value)
          ∙ ap (λ (y : ShownValue). write_in s b c.as_slice.result.now y.value
          >>= λ t. Fine (shown c.in-Ok.found.value, t)) (sym shown-Null))
          (faults_go_on o (λ (t : State). Fine (shown c.in-Ok.found.value, t)) c.in-Err-put.stop
          c.in-Err-put.ensures.changes.0),
      c.in-Err-put.ensures.changes.1,
    )
