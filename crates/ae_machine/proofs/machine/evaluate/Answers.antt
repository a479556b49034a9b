use Rattle.std.proofs.Common.{subst}
use Rattle.ae_levels.specs.Halting.{HaltsAs}
use Rattle.ae_levels.specs.declared.halt.Halt.{Halt}
use Rattle.ae_machine.specs.Tasks.{code_in, whole_of}
use Rattle.ae_machine.proofs.machine.evaluate.Goals as goal

pub unreachable-requires : goal.unreachable-requires
unreachable-requires c = c.runs_mean_so.ensures.has_ending (code_in c.args.task.now) c.args.task.now.ints.now
    c.args.task.now.fuel c.steps.new.run.out.items c.requires
    (subst (λ (h : Halt). HaltsAs (whole_of c.args.task.now) c.steps.new.run.out.items h) c.in-Err-Lack.field-0-is
    c.in-Err-Lack.ensures)
