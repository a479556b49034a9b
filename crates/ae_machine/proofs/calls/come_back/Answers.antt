use Rattle.std.proofs.Common.{sym, subst}
use Rattle.ae_levels.specs.Halting.{HaltsAs}
use Rattle.ae_levels.specs.declared.halt.Halt.{Halt}
use Rattle.ae_machine.specs.Frames.{levels}
use Rattle.ae_machine.specs.Tasks.{whole_of}
use Rattle.ae_machine.proofs.BackLemmas.{BackLaws, IsLeft, caller_goes_on, leaving_halts, receiving_halts}
use Rattle.ae_machine.proofs.calls.come_back.Goals as goal

pub returns-in-Err : goal.returns-in-Err
returns-in-Err c =
    let laws : BackLaws = record {
      enters = c.calls_are_entered.ensures;
      leaves = c.calls_are_left.ensures;
      stays = c.needed_groups_stay.ensures;
      apart = c.names_stand_apart.ensures;
      back = c.calls_come_back.ensures;
    } in
    subst (λ (h : Halt). HaltsAs (whole_of c.args.task.now) c.leave.new.run.out.items h) (sym c.stopped_at.ensures)
    (leaving_halts laws c.args.task.now c.requires.sound c.args.waiting c.args.run.now c.leave.new.run
    (levels c.args.frames.now.items) c.in-Err.stop c.requires.at c.in-Err.ensures.left c.leave.ensures.out)

pub returns-in-Ok-receive : goal.returns-in-Ok-receive
returns-in-Ok-receive c =
    let laws : BackLaws = record {
      enters = c.calls_are_entered.ensures;
      leaves = c.calls_are_left.ensures;
      stays = c.needed_groups_stay.ensures;
      apart = c.names_stand_apart.ensures;
      back = c.calls_come_back.ensures;
    } in
    let left : IsLeft c.args.waiting c.args.run.now c.leave.new.run c.in-Ok.result = record {
      leaves = c.in-Ok.ensures.left;
      names = c.in-Ok.ensures.names;
      waiting = c.in-Ok.ensures.waiting;
      out = c.leave.ensures.out;
    } in
    caller_goes_on laws c.args.task.now c.requires.sound c.args.waiting c.args.run.now c.leave.new.run c.receive.new.run
    c.in-Ok.result (levels c.args.frames.now.items) c.requires.at left c.in-Ok-receive.ensures.done
    c.in-Ok-receive.ensures.names c.in-Ok-receive.ensures.waiting c.receive.ensures.out

pub returns-in-Err-receive : goal.returns-in-Err-receive
returns-in-Err-receive c =
    let laws : BackLaws = record {
      enters = c.calls_are_entered.ensures;
      leaves = c.calls_are_left.ensures;
      stays = c.needed_groups_stay.ensures;
      apart = c.names_stand_apart.ensures;
      back = c.calls_come_back.ensures;
    } in
    let left : IsLeft c.args.waiting c.args.run.now c.leave.new.run c.in-Ok.result = record {
      leaves = c.in-Ok.ensures.left;
      names = c.in-Ok.ensures.names;
      waiting = c.in-Ok.ensures.waiting;
      out = c.leave.ensures.out;
    } in
    subst (λ (h : Halt). HaltsAs (whole_of c.args.task.now) c.receive.new.run.out.items h)
    (sym c.stopped_at-in-Err-receive.ensures)
    (receiving_halts laws c.args.task.now c.requires.sound c.args.waiting c.args.run.now c.leave.new.run
    c.receive.new.run c.in-Ok.result (levels c.args.frames.now.items) c.in-Err-receive.stop c.requires.at left
    c.in-Err-receive.ensures.done c.receive.ensures.out)
