use Rattle.std.proofs.Common.{◌≡◌, drop}
use Rattle.ae_scope.specs.Scope.{context_of}
use Rattle.ae_scope.specs.Grows.{Grows}
use Rattle.ae_scope.proofs.RegroupLemmas.{with_these_held_back}
use Rattle.ae_scope.proofs.scope.Scope.hold_all_back.Given as goal

-- the rest of the groups are held back from here as all are from the beginning
abbrev pub invariant-loop-i : goal.invariant-loop-i
invariant-loop-i l = record {
  rest : with_these_held_back l.initial.self.known.items (context_of l.initial.self)
      ≡ with_these_held_back (drop l.i l.initial.self.known.items) (context_of l.self);
  known : l.self.known.items ≡ l.initial.self.known.items;
  grows : Grows l.initial.self l.self;
}
