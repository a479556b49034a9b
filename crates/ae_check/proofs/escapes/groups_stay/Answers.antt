use Rattle.std.proofs.Common.{List, subst, ap, ◌∙◌}
use mathlib.Core.Path.{fun_ext}
use Rattle.std.specs.List.{list_any}
use Rattle.ae_tree.specs.Shown.{braced}
use Rattle.ae_rules.specs.Answers.{Answers, done}
use Rattle.ae_rules.specs.BlockLaws.{groups_in_lines}
use Rattle.ae_rules.specs.Lookups.{Names}
use Rattle.ae_rules.specs.Verdict.{each}
use Rattle.ae_scope.specs.declared.slot.Change.{Change}
use Rattle.ae_check.specs.Blocks.{is_not_left, shares_outside}
use Rattle.ae_check.proofs.escapes.groups_stay.Goals as goal

pub returns : goal.returns
returns c =
    subst (λ (left : Names). Answers (each (is_not_left left) (groups_in_lines (braced c.args.block.now).lines)) done
    c.none_left.result)
    (fun_ext (λ g. c.in_ok-groups.ensures g
    ∙ ap (λ (cs : List Change). list_any (shares_outside c.args.mark.locals g) cs)
    (c.as_slice.ensures.value ∙ c.in_ok-changed.ensures)))
    c.none_left.ensures
