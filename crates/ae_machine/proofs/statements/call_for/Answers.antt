use Rattle.std.proofs.Common.{subst, ℕ, suc, ◌+◌}
use Rattle.ae_tree.specs.Shown.{action, invocation}
use Rattle.ae_levels.specs.Halting.{LeadsTo}
use Rattle.ae_levels.specs.Levels.{levels_cost}
use Rattle.ae_machine.specs.Frames.{aim, levels}
use Rattle.ae_machine.specs.Tasks.{IsPast, code_in, whole_of}
use Rattle.ae_machine.proofs.StatementLemmas.{call_cost, call_is_judged, call_of_statement}
use Rattle.ae_machine.proofs.statements.call_for.Goals as goal

pub begin_call-requires-clause-begun : goal.begin_call-requires-clause-begun
begin_call-requires-clause-begun c =
    call_of_statement c.calls_come_back.ensures c.args.task.now c.args.run.now c.args.rest c.args.stmt.now.at
    (action c.args.stmt.now.kind) (invocation c.args.call.now) (aim c.args.target) (levels c.args.frames.now.items)
    c.requires.calling c.requires.begun

pub begin_call-requires-clause-judged : goal.begin_call-requires-clause-judged
begin_call-requires-clause-judged c =
    call_is_judged c.args.task.now c.args.run.now c.args.rest c.args.stmt.now.at (action c.args.stmt.now.kind)
    (invocation c.args.call.now) (aim c.args.target) (levels c.args.frames.now.items) c.requires.calling c.requires.begun

pub returns : goal.returns
returns c = subst (λ (n : ℕ). LeadsTo (whole_of c.args.task.now) c.begin_call.new.run.out.items
    (IsPast c.args.task.now c.begin_call.new.run (levels c.begin_call.new.frames.items)
    (suc n + levels_cost (code_in c.args.task.now) (levels c.args.frames.now.items))) c.begin_call.result)
    (call_cost c.args.task.now c.args.rest.fuel (action c.args.stmt.now.kind) (invocation c.args.call.now)
    (aim c.args.target) c.requires.calling)
    c.begin_call.ensures
