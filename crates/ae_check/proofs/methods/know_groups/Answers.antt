use Rattle.std.proofs.Common.{◌∙◌}
use Rattle.ae_scope.specs.Scope.{context_of}
use Rattle.ae_check.proofs.MethodLemmas.{next_known}
use Rattle.ae_check.proofs.methods.know_groups.Goals as goal

pub loop-group-preserved : goal.loop-group-preserved
loop-group-preserved c = record {
  rest = next_known c.args.needs.now c.args.groups.now c.loop-group.group-index _ _ (context_of c.args.scope.now)
      (context_of c.loop-group.scope) (context_of c.know.new.self) c.loop-group-test.true
      c.loop-group.invariant.rest c.permission_at_start.ensures c.in_ok-know.ensures.context;
  table = c.in_ok-know.ensures.table ∙ c.loop-group.invariant.table;
  groups = c.in_ok-know.ensures.groups ∙ c.loop-group.invariant.groups;
}
