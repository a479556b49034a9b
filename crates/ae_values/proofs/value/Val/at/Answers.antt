use Rattle.std.proofs.Common.{ap, sym, ◌∙◌, drop}
use Rattle.ae_values.specs.Inside.{value_inside}
use Rattle.ae_values.proofs.PutLemmas.{shown_object, inside_further, inside_no_object}
use Rattle.ae_values.proofs.value.Val.at.Goals as goal

pub returns-in-None-clause-value : goal.returns-in-None-clause-value
returns-in-None-clause-value c =
    let is = c.args.fields.now in
    let k = c.loop-field.field-index in
    let x = c.loop-field.value.now in
    sym (sym c.loop-field.invariant.1
    ∙ ap (value_inside (drop k is))
    (shown_object x c.in-Object.object c.deref.result.now c.in-Object.is c.deref.ensures)
    ∙ inside_further is k _ _ c.loop-field-test.true c.in-None.ensures.value)

pub returns-in-Int-clause-value : goal.returns-in-Int-clause-value
returns-in-Int-clause-value c =
    sym (sym c.loop-field.invariant.1
    ∙ inside_no_object c.args.fields.now c.loop-field.field-index c.loop-field.value.now
    c.loop-field-test.true c.in-Int.is)

pub loop-field-preserved : goal.loop-field-preserved
loop-field-preserved c =
    let is = c.args.fields.now in
    let k = c.loop-field.field-index in
    let x = c.loop-field.value.now in (
      c.in-Some.ensures.measured,
      sym (sym c.loop-field.invariant.1
          ∙ ap (value_inside (drop k is))
          (shown_object x c.in-Object.object c.deref.result.now c.in-Object.is c.deref.ensures)
          ∙ inside_further is k _ _ c.loop-field-test.true c.in-Some.ensures.value),
    )
