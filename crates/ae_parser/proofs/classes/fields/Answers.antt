use Rattle.ae_tree.specs.Grammar.{field, one_by_one}
use Rattle.ae_reading.specs.Reads.{itself, Free}
use Rattle.ae_parser.proofs.from_reading.ReadsLemmas.{exits}
use Rattle.ae_parser.proofs.from_reading.PartLemmas.{loop_start, loop_more, loop_failed}
use Rattle.ae_parser.specs.Productions.{NoType}
use Rattle.ae_parser.proofs.ClassLemmas.{type_goes_on, fields_end, field_smaller}
use Rattle.ae_parser.proofs.classes.fields.Goals as goal

pub fields-init : goal.fields-init
fields-init c = loop_start field NoType _ _ c.new-fields.ensures

pub returns-in_err-field : goal.returns-in_err-field
returns-in_err-field c = exits itself (one_by_one field) Free NoType _ _ _
    (loop_failed field NoType _ _ _ _ (type_goes_on _ c.fields-test.ensures) c.fields.invariant
    c.in_err-field.ensures) c.from_residual.ensures.1

pub fields-smaller : goal.fields-smaller
fields-smaller c = field_smaller _ _ _ c.in_ok-field.ensures

pub fields-preserved : goal.fields-preserved
fields-preserved c = loop_more field NoType _ _ _ _ _ _ (type_goes_on _ c.fields-test.ensures) c.in_ok-push.ensures.ok
    c.fields.invariant c.in_ok-field.ensures

pub returns : goal.returns
returns c = fields_end _ _ _ c.fields-test.ensures c.fields.invariant
