use Rattle.std.proofs.Common.{◌≡◌, drop}
use Rattle.ae_scope.specs.Slots.{replayed}
use Rattle.ae_scope.specs.Grows.{Grows}
use Rattle.ae_scope.proofs.scope.Scope.replay.Given as goal

abbrev pub invariant-loop-change : goal.invariant-loop-change
invariant-loop-change l = record {
  rest : replayed l.changes l.initial.self.locals.items ≡ replayed (drop l.change-index l.changes) l.self.locals.items;
  grows : Grows l.initial.self l.self;
}
