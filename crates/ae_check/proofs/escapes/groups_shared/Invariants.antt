use Rattle.std.proofs.Common.{◌≡◌, ℕ, take}
use Rattle.std.specs.List.{list_any}
use Rattle.ae_groups.specs.Contexts.{set_of_names}
use Rattle.ae_check.specs.Blocks.{shares_outside}
use Rattle.ae_check.proofs.escapes.groups_shared.Given as goal

-- those of the changes so far
abbrev pub invariant-loop-change : goal.invariant-loop-change
invariant-loop-change l = (g : ℕ) → set_of_names l.groups g
    ≡ list_any (shares_outside l.locals g) (take l.change-index l.changes)
