use Rattle.std.proofs.Common.{◌≡◌, ◌≤◌, take, drop, length}
use Rattle.ae_scope.specs.Trail.{groups_before}
use Rattle.ae_scope.proofs.scope.Scope.rewind_groups.Given as goal

abbrev pub invariant-loop-self : goal.invariant-loop-self
invariant-loop-self l = record {
  left : l.changes ≤ length l.self.group_trail.items;
  same : take l.changes l.self.group_trail.items ≡ take l.changes l.initial.self.group_trail.items;
  back : groups_before (drop l.changes l.self.group_trail.items) l.self.groups.perms.items
      ≡ groups_before (drop l.changes l.initial.self.group_trail.items) l.initial.self.groups.perms.items;
  locals : l.self.locals.items ≡ l.initial.self.locals.items;
  table : length l.self.at.items ≡ length l.initial.self.at.items;
  trail : l.self.trail.items ≡ l.initial.self.trail.items;
}

abbrev pub decreases-loop-self : goal.decreases-loop-self
decreases-loop-self l = length l.self.group_trail.items
