use Rattle.ae_levels.specs.Levels.{levels_cost}
use Rattle.ae_machine.specs.Frames.{levels}
use Rattle.ae_machine.specs.Tasks.{IsAt, code_in}
use Rattle.ae_machine.proofs.machine.steps.Given as goal

abbrev pub invariant-loop-frame : goal.invariant-loop-frame
invariant-loop-frame l = IsAt l.task l.run (levels l.frames.items)

abbrev pub decreases-loop-frame : goal.decreases-loop-frame
decreases-loop-frame l = levels_cost (code_in l.task) (levels l.frames.items)
