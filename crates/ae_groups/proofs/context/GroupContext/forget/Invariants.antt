use Rattle.std.proofs.Common.{◌≡◌, drop, length}
use Rattle.ae_rules.specs.Groups.{forget}
use Rattle.ae_groups.specs.Contexts.{known_groups}
use Rattle.ae_groups.proofs.context.GroupContext.forget.Given as goal

-- the rest of the groups are forgotten from here as all are from the beginning
abbrev pub invariant-loop-g : goal.invariant-loop-g
invariant-loop-g l = record {
  rest : forget l.gs (known_groups l.initial.self) ≡ forget (drop l.g-index l.gs) (known_groups l.self);
  table : length l.self.perms.items ≡ length l.initial.self.perms.items;
}
