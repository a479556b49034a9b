use Rattle.std.proofs.Common.{◌≡◌, ◌≤◌, take, length}
use Rattle.ae_scope.proofs.scope.Scope.cut.Given as goal

abbrev pub invariant-loop-self : goal.invariant-loop-self
invariant-loop-self l = record {
  left : l.locals ≤ length l.self.locals.items;
  same : take l.locals l.self.locals.items ≡ take l.locals l.initial.self.locals.items;
  groups : l.self.groups.perms.items ≡ l.initial.self.groups.perms.items;
  group_trail : l.self.group_trail.items ≡ l.initial.self.group_trail.items;
  table : length l.self.at.items ≡ length l.initial.self.at.items;
  trail : l.self.trail.items ≡ l.initial.self.trail.items;
}

abbrev pub decreases-loop-self : goal.decreases-loop-self
decreases-loop-self l = length l.self.locals.items
