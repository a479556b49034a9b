use Rattle.std.proofs.Common.{◌≡◌, ◌≤◌, ◌∷◌, length}
use Rattle.ae_tree.specs.Shown.{lines_from}
use Rattle.ae_levels.specs.Levels.{level_cost}
use Rattle.ae_machine.specs.Frames.{block_from, levels}
use Rattle.ae_machine.specs.Tasks.{IsAt, code_in}
use Rattle.ae_machine.proofs.statements.go_on.Given as goal

-- the block goes on from here, with no more to do than it had, and the same waits behind it
abbrev pub invariant-loop-stmt : goal.invariant-loop-stmt
invariant-loop-stmt l = IsAt l.task l.run (block_from l.rest (lines_from l.stmts) ∷ levels l.frames.items)
    × (level_cost (code_in l.task) (block_from l.rest (lines_from l.stmts))
    ≤ level_cost (code_in l.task) (block_from l.rest (lines_from l.rest.stmts.now)))
    × (levels l.frames.items ≡ levels l.initial.frames.items)

abbrev pub decreases-loop-stmt : goal.decreases-loop-stmt
decreases-loop-stmt l = length l.stmts
