use Rattle.std.proofs.Common.{length, ap, subst, arith}
use Rattle.ae_tree.specs.declared.form.Form.{Form}
use Rattle.ae_tree.specs.Shown.{expression}
use Rattle.ae_rules.specs.Lookups.{field_form}
use Rattle.ae_scope.specs.Scope.{context_of}
use Rattle.ae_judge.specs.Tabled.{code_of}
use Rattle.ae_uses.specs.Used.{Adds}
use Rattle.ae_uses.specs.Calls.{field_uses}
use Rattle.ae_uses.proofs.EachLemmas.{owes_rest_of_pairs, owes_none_of_pairs}
use Rattle.ae_uses.proofs.calls.fields_used.Goals as goal

pub loop-i-preserved : goal.loop-i-preserved
loop-i-preserved c =
    let p = code_of c.args.tabled.now in
    let d = context_of c.args.scope.now in
    owes_rest_of_pairs (field_form c.args.class.now c.args.groups.now) expression (field_uses p d)
    c.args.class.now.fields c.args.args.now c.loop-i.i c.index-fields-i.result c.index-args-i.result c.args.used.now
    c.loop-i.used c.into_used.new.used _
    (omega (arith, c.loop-i-test.true, c.min-len.ensures, ap length c.as_slice-fields.ensures))
    (rw c.as_slice-fields.ensures at c.index-fields-i.is)
    (omega (arith, c.loop-i-test.true, c.min-len.ensures)) c.index-args-i.is c.loop-i.invariant
    (subst (λ (t : Form). Adds c.loop-i.used (field_uses p d (t, expression c.index-args-i.result))
    c.into_used.new.used) c.in_ok-form.ensures c.in_ok-into_used.ensures)

pub returns : goal.returns
returns c = owes_none_of_pairs (field_form c.args.class.now c.args.groups.now) expression
    (field_uses (code_of c.args.tabled.now) (context_of c.args.scope.now)) c.args.class.now.fields c.args.args.now
    c.loop-i.i c.args.used.now c.loop-i.used _
    (omega (arith, c.loop-i-test.false, c.min-len.ensures, ap length c.as_slice-fields.ensures)) c.loop-i.invariant
