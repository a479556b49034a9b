use Rattle.std.proofs.Common.{◌≡◌, drop, length}
use Rattle.ae_tree.specs.Form.{bare_names}
use Rattle.ae_scope.specs.Scope.{context_of}
use Rattle.ae_check.specs.Methods.{with_groups_needed}
use Rattle.ae_check.proofs.methods.know_groups.Given as goal

-- the rest of the groups become known from here as all do from the beginning
abbrev pub invariant-loop-group : goal.invariant-loop-group
invariant-loop-group l = record {
  rest : with_groups_needed l.needs (bare_names l.groups) (context_of l.initial.scope)
      ≡ with_groups_needed l.needs (bare_names (drop l.group-index l.groups)) (context_of l.scope);
  table : length l.scope.at.items ≡ length l.initial.scope.at.items;
  groups : length l.scope.groups.perms.items ≡ length l.initial.scope.groups.perms.items;
}
