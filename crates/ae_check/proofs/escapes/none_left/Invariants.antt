use Rattle.std.proofs.Common.{◌≡◌, drop}
use Rattle.ae_tree.specs.Shown.{braced, lines_from}
use Rattle.ae_rules.specs.BlockLaws.{groups_in_lines}
use Rattle.ae_rules.specs.Verdict.{each}
use Rattle.ae_groups.specs.Contexts.{set_of_names}
use Rattle.ae_check.specs.Blocks.{is_not_left}
use Rattle.ae_check.proofs.escapes.none_left.Given as goal

-- the rest decides
abbrev pub invariant-loop-stmt : goal.invariant-loop-stmt
invariant-loop-stmt l = each (is_not_left (set_of_names l.groups)) (groups_in_lines (braced l.block).lines)
    ≡ each (is_not_left (set_of_names l.groups)) (groups_in_lines (lines_from (drop l.stmt-index l.stmt-items)))
