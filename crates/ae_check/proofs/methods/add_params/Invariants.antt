use Rattle.std.proofs.Common.{◌≡◌, drop, length}
use Rattle.ae_scope.specs.Scope.{context_of}
use Rattle.ae_check.specs.Methods.{with_params}
use Rattle.ae_check.proofs.methods.add_params.Given as goal

-- the rest of the parameters are added from here as all are from the beginning
abbrev pub invariant-loop-param : goal.invariant-loop-param
invariant-loop-param l = record {
  rest : with_params l.params (context_of l.initial.scope)
      ≡ with_params (drop l.param-index l.params) (context_of l.scope);
  table : length l.scope.at.items ≡ length l.initial.scope.at.items;
  groups : length l.scope.groups.perms.items ≡ length l.initial.scope.groups.perms.items;
}
