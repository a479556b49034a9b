use Rattle.std.proofs.Common.{◌≡◌, drop}
use Rattle.ae_rules.specs.Effects.{all_moved}
use Rattle.ae_scope.specs.Scope.{context_of}
use Rattle.ae_scope.specs.Grows.{Grows}
use Rattle.ae_check.proofs.simple.release.Given as goal

-- the rest of the names moves from here as all do from the beginning
abbrev pub invariant-loop-name : goal.invariant-loop-name
invariant-loop-name l = record {
  rest : all_moved l.names (context_of l.initial.scope)
      ≡ all_moved (drop l.name-index l.names) (context_of l.scope);
  grows : Grows l.initial.scope l.scope;
}
