use Rattle.std.proofs.Common.{sym, ◌∙◌}
use Rattle.std.proofs.lemmas.List.{length-map}
use Rattle.ae_tree.specs.Shown.{expression, invocation}
use Rattle.ae_scope.specs.Scope.{context_of}
use Rattle.ae_judge.specs.Tabled.{code_of}
use Rattle.ae_calls.specs.Roots.{roots_of}
use Rattle.ae_calls.specs.Param.{new_in}
use Rattle.ae_calls.specs.Callee.{callee_shown}
use Rattle.ae_calls.specs.Called.{called_of}
use Rattle.ae_calls.specs.declared.giving.Given.{Given}
use Rattle.ae_rules.specs.Answers.{done}
use Rattle.ae_calls.proofs.CalledLemmas.{counted_from, argument_is_refused, need_is_refused, call_holds}
use Rattle.ae_calls.proofs.calls.judge_callee_with.Goals as goal

pub returns-in-Err : goal.returns-in-Err
returns-in-Err c =
    let p = code_of c.args.tabled.now in
    let x = context_of c.args.scope.now in
    let i = invocation c.args.call.now in
    let k = callee_shown c.args.callee.now in
    argument_is_refused p x i k (new_in c.in_ok-new.new) (λ (given : Given). roots_of given.roots) (called_of x)
    c.in-Err.fail
    (counted_from x i k (new_in c.in_ok-new.new) tt c.len.result c.len-2.result c.len-3.result c.as_slice.result.now
    c.as_slice-2.result.now c.len.ensures c.as_slice.ensures c.in_ok-groups_fit.ensures
    (c.len-2.ensures ∙ sym (length-map c.args.call.now.args expression)) c.len-3.ensures c.if-len.false
    c.as_slice-2.ensures c.in_ok-new.ensures)
    c.in-Err.ensures.answer

pub returns-in-Err-needs_met : goal.returns-in-Err-needs_met
returns-in-Err-needs_met c =
    let p = code_of c.args.tabled.now in
    let x = context_of c.args.scope.now in
    let i = invocation c.args.call.now in
    let k = callee_shown c.args.callee.now in
    need_is_refused p x i k (new_in c.in_ok-new.new) (roots_of c.in-Ok.given.roots) done (called_of x)
    c.in-Err-needs_met.fail
    (counted_from x i k (new_in c.in_ok-new.new) tt c.len.result c.len-2.result c.len-3.result c.as_slice.result.now
    c.as_slice-2.result.now c.len.ensures c.as_slice.ensures c.in_ok-groups_fit.ensures
    (c.len-2.ensures ∙ sym (length-map c.args.call.now.args expression)) c.len-3.ensures c.if-len.false
    c.as_slice-2.ensures c.in_ok-new.ensures)
    c.in-Ok.ensures.answer c.as_slice-3.result.now c.as_slice-3.ensures c.in-Err-needs_met.ensures

pub returns : goal.returns
returns c =
    let p = code_of c.args.tabled.now in
    let x = context_of c.args.scope.now in
    let i = invocation c.args.call.now in
    let k = callee_shown c.args.callee.now in
    call_holds p x i k (new_in c.in_ok-new.new) (roots_of c.in-Ok.given.roots) tt c.in-Ok.given.gone.items
    c.in_ok-result.result
    (counted_from x i k (new_in c.in_ok-new.new) tt c.len.result c.len-2.result c.len-3.result c.as_slice.result.now
    c.as_slice-2.result.now c.len.ensures c.as_slice.ensures c.in_ok-groups_fit.ensures
    (c.len-2.ensures ∙ sym (length-map c.args.call.now.args expression)) c.len-3.ensures c.if-len.false
    c.as_slice-2.ensures c.in_ok-new.ensures)
    c.in-Ok.ensures.answer c.in-Ok.ensures.gone c.as_slice-3.result.now c.as_slice-3.ensures c.in-Ok-needs_met.ensures
    c.in_ok-result.ensures
