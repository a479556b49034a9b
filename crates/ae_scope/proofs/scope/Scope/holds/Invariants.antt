use Rattle.std.proofs.Common.{◌≡◌, drop}
use Rattle.ae_scope.specs.Slots.{all_same}
use Rattle.ae_scope.proofs.scope.Scope.holds.Given as goal

-- the rest decides
abbrev pub invariant-loop-change : goal.invariant-loop-change
invariant-loop-change l = all_same l.changes l.self.locals.items
    ≡ all_same (drop l.change-index l.changes) l.self.locals.items
