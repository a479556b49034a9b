use Rattle.std.proofs.Common.{ap, ◌∙◌}
use Rattle.ae_tree.specs.Shown.{invocation}
use Rattle.ae_rules.specs.Calls.{group_in}
use Rattle.ae_scope.specs.Scope.{context_of}
use Rattle.ae_judge.specs.Tabled.{code_of}
use Rattle.ae_calls.specs.Callee.{callee_shown}
use Rattle.ae_calls.specs.Param.{new_in}
use Rattle.ae_uses.proofs.CallLemmas.{callee_adds_three}
use Rattle.ae_uses.proofs.calls.callee_used.Goals as goal

pub returns : goal.returns
returns c =
    callee_adds_three (code_of c.args.tabled.now) (context_of c.args.scope.now) (invocation c.args.call.now)
    (callee_shown c.args.callee.now) (new_in c.in_ok-new.new) c.args.used.now c.receiver_used.new.used
    c.arguments_used.new.used c.needs_used.new.used
    (c.in_ok-new.ensures ∙ ap (group_in (callee_shown c.args.callee.now)) c.as_slice.ensures) c.requires
    c.in_ok-receiver_used.ensures (rw c.as_slice-2.ensures at (rw c.as_slice-3.ensures at c.in_ok-arguments_used.ensures))
    (rw c.as_slice-4.ensures at c.in_ok-needs_used.ensures)
