use Rattle.std.proofs.Common.{◌≡◌, map, take}
use Rattle.ae_rules.specs.Groups.{held_back}
use Rattle.ae_groups.proofs.context.GroupContext.others_held_back.Given as goal

abbrev pub invariant-loop-perm : goal.invariant-loop-perm
invariant-loop-perm l = l.perms.items ≡ map held_back (take l.perm-index l.self.perms.items)
