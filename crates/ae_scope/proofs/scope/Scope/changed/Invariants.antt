use Rattle.std.proofs.Common.{◌≡◌, take}
use Rattle.ae_scope.specs.Slots.{now_held}
use Rattle.ae_scope.proofs.scope.Scope.changed.Given as goal

abbrev pub invariant-loop-change : goal.invariant-loop-change
invariant-loop-change l = l.now.items ≡ now_held (take l.change-index l.change-items) l.self.locals.items
