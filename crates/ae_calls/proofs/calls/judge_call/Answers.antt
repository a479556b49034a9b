use Rattle.ae_scope.specs.Scope.{context_of}
use Rattle.ae_calls.specs.Callee.{callee_shown}
use Rattle.ae_calls.proofs.calls.judge_call.Goals as goal

pub judge_callee_with-requires : goal.judge_callee_with-requires
judge_callee_with-requires c = c.args.tabled.now.receivers (context_of c.args.scope.now) c.args.call.now.on
    c.args.call.now.method (callee_shown c.in_ok-callee.callee) c.in_ok-callee.ensures
