use Rattle.std.proofs.Common.{drop}
use Rattle.ae_tree.specs.declared.tree.NameAt.{NameAt}
use Rattle.ae_rules.specs.Uses.{of_each, whole_group}
use Rattle.ae_uses.specs.Used.{Owes}
use Rattle.ae_bodies.proofs.blocks.groups_used.Given as goal

-- the groups from here on are still to be used
abbrev pub invariant-loop-group : goal.invariant-loop-group
invariant-loop-group l = Owes l.initial.used (of_each (λ (g : NameAt). whole_group g.name) l.groups)
    l.used (of_each (λ (g : NameAt). whole_group g.name) (drop l.group-index l.groups))
