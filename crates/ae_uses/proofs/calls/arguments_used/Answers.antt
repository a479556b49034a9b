use Rattle.std.proofs.Common.{subst, arith}
use Rattle.ae_tree.specs.Shown.{expression}
use Rattle.ae_rules.specs.Calls.{ParamSlot, param_slot}
use Rattle.ae_scope.specs.Scope.{context_of}
use Rattle.ae_judge.specs.Tabled.{code_of}
use Rattle.ae_calls.specs.Param.{new_in}
use Rattle.ae_uses.specs.Used.{Adds}
use Rattle.ae_uses.specs.Calls.{slot_uses}
use Rattle.ae_uses.proofs.EachLemmas.{owes_rest_of_pairs, owes_none_of_pairs}
use Rattle.ae_uses.proofs.calls.arguments_used.Goals as goal

pub loop-i-preserved : goal.loop-i-preserved
loop-i-preserved c =
    let p = code_of c.args.tabled.now in
    let d = context_of c.args.scope.now in
    owes_rest_of_pairs (param_slot (new_in c.args.new.now)) expression (slot_uses p d) c.args.params.now
    c.args.args.now c.loop-i.i c.index-params-i.result c.index-args-i.result c.args.used.now c.loop-i.used
    c.argument_used.new.used _
    (omega (arith, c.loop-i-test.true, c.min-len.ensures)) c.index-params-i.is
    (omega (arith, c.loop-i-test.true, c.min-len.ensures)) c.index-args-i.is c.loop-i.invariant
    (subst (λ (s : ParamSlot). Adds c.loop-i.used (slot_uses p d (s, expression c.index-args-i.result))
    c.argument_used.new.used) c.in_ok-slot.ensures c.in_ok-argument_used.ensures)

pub returns : goal.returns
returns c = owes_none_of_pairs (param_slot (new_in c.args.new.now)) expression
    (slot_uses (code_of c.args.tabled.now) (context_of c.args.scope.now)) c.args.params.now c.args.args.now c.loop-i.i
    c.args.used.now c.loop-i.used _ (omega (arith, c.loop-i-test.false, c.min-len.ensures)) c.loop-i.invariant
