use Rattle.std.proofs.Common.{◌≡◌, drop}
use Rattle.ae_tree.specs.Shown.{braced, lines_from}
use Rattle.ae_rules.specs.BlockLaws.{groups_in_lines}
use Rattle.ae_check.proofs.escapes.declares_group.Given as goal

-- no statement before declares a group
abbrev pub invariant-loop-stmt : goal.invariant-loop-stmt
invariant-loop-stmt l = groups_in_lines (braced l.block).lines
    ≡ groups_in_lines (lines_from (drop l.stmt-index l.stmt-items))
