use Rattle.std.proofs.Common.{◌≡◌, ◌∙◌, ap, sym, rules, map}
use Rattle.ae_tree.specs.Plain.{Made, Taken}
use Rattle.ae_tree.specs.Shown.{expression, right_side}
use Rattle.ae_judge.specs.Tabled.{code_of}
use Rattle.ae_running.specs.Seen.{seen}
use Rattle.ae_acts.specs.Made.{made_low, new_low, taken_low}
use Rattle.ae_acts.proofs.from_reads.OpenLemmas.{answers_equal}
use Rattle.ae_acts.proofs.ValueLemmas.{object_goes}
use Rattle.ae_acts.proofs.StoreLemmas.{field_goes}
use Rattle.ae_acts.proofs.values.right.Goals as goal

pub returns-in-New-clause-done : goal.returns-in-New-clause-done
returns-in-New-clause-done c =
    let p = code_of c.args.tabled.now in
    let s = seen c.args.run.now in
    let es = map expression c.in-New.args in
    let is : right_side c.args.rhs.now ≡ Made c.in-New.class c.in-New.groups es c.in-New.field-3 = search rules in
    let groups : c.as_slice.result.now ≡ c.in-New.groups = search rules in
    let args : c.as_slice-in-New.result.now ≡ c.in-New.args = search rules in
    let n = c.in-New.class.name in
    answers_equal (made_low p c.args.form.now (right_side c.args.rhs.now) s)
    (new_low p n c.as_slice.result.now (map expression c.as_slice-in-New.result.now) s) _ c.new_object.result
    (ap (λ r. made_low p c.args.form.now r s) is
    ∙ object_goes p s c.args.form.now c.in-New.class c.in-New.groups es c.in-New.field-3
    ∙ ap (λ gs. new_low p n gs es s) (sym groups)
    ∙ ap (λ xs. new_low p n c.as_slice.result.now (map expression xs) s) (sym args))
    c.new_object.ensures.done

pub returns-in-Take-clause-done : goal.returns-in-Take-clause-done
returns-in-Take-clause-done c =
    let p = code_of c.args.tabled.now in
    let s = seen c.args.run.now in
    let is : right_side c.args.rhs.now ≡ Taken c.in-Take.path c.in-Take.field-1 = search rules in
    answers_equal (made_low p c.args.form.now (right_side c.args.rhs.now) s) (taken_low p c.in-Take.path s) _
    c.taken.result
    (ap (λ r. made_low p c.args.form.now r s) is ∙ field_goes p c.args.form.now c.in-Take.path c.in-Take.field-1 s)
    c.taken.ensures.done
