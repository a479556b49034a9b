use Rattle.std.proofs.Common.{sym, ap, ◌∙◌}
use Rattle.ae_tree.specs.Shown.{lines_from, lines-out}
use Rattle.ae_rules.specs.BlockLaws.{groups_in_lines}
use Rattle.ae_check.proofs.escapes.declares_group.Goals as goal

pub loop-stmt-init : goal.loop-stmt-init
loop-stmt-init c = ap groups_in_lines (lines-out c.args.block.now
    ∙ ap lines_from (sym c.as_slice-stmt-items.ensures))
