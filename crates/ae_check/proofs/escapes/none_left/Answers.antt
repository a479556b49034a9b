use Rattle.std.proofs.Common.{sym, ap, ◌∙◌}
use Rattle.ae_tree.specs.Plain.{Lines}
use Rattle.ae_tree.specs.Shown.{lines_from, lines-out}
use Rattle.ae_rules.specs.BlockLaws.{groups_in_lines}
use Rattle.ae_rules.specs.Verdict.{each}
use Rattle.ae_groups.specs.Contexts.{set_of_names}
use Rattle.ae_check.specs.Blocks.{is_not_left}
use Rattle.ae_check.proofs.escapes.none_left.Goals as goal

pub loop-stmt-init : goal.loop-stmt-init
loop-stmt-init c = ap (λ (b : Lines). each (is_not_left (set_of_names c.args.groups.now)) (groups_in_lines b))
    (lines-out c.args.block.now ∙ ap lines_from (sym c.as_slice-stmt-items.ensures))
