use Rattle.ae_uses.proofs.calls.call_used.Goals as goal

pub callee_used-requires : goal.callee_used-requires
callee_used-requires c = c.args.tabled.now.receivers _ _ _ _
    (rw (rw c.in-Some.is at c.in_ok-callee.ensures.held) at c.judge_callee.ensures)
