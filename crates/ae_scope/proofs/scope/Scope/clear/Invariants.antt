use Rattle.std.proofs.Common.{◌≡◌, [], length}
use Rattle.ae_scope.proofs.scope.Scope.clear.Given as goal

abbrev pub invariant-loop-self : goal.invariant-loop-self
invariant-loop-self l = record {
  locals : l.self.locals.items ≡ [];
  trail : l.self.trail.items ≡ [];
  table : length l.self.at.items ≡ length l.fn.self.at.items;
  group_trail : l.self.group_trail.items ≡ [];
}

abbrev pub decreases-loop-self : goal.decreases-loop-self
decreases-loop-self l = length l.self.known.items
