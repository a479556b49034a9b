use Rattle.std.proofs.Common.{◌≡◌, ◌≤◌, take, drop, length}
use Rattle.ae_scope.specs.Slots.{rewound}
use Rattle.ae_scope.proofs.scope.Scope.rewind.Given as goal

abbrev pub invariant-loop-self : goal.invariant-loop-self
invariant-loop-self l = record {
  left : l.changes ≤ length l.self.trail.items;
  same : take l.changes l.self.trail.items ≡ take l.changes l.initial.self.trail.items;
  back : rewound (drop l.changes l.self.trail.items) l.self.locals.items
      ≡ rewound (drop l.changes l.initial.self.trail.items) l.initial.self.locals.items;
  groups : l.self.groups.perms.items ≡ l.initial.self.groups.perms.items;
  group_trail : l.self.group_trail.items ≡ l.initial.self.group_trail.items;
  table : length l.self.at.items ≡ length l.initial.self.at.items;
}

abbrev pub decreases-loop-self : goal.decreases-loop-self
decreases-loop-self l = length l.self.trail.items
