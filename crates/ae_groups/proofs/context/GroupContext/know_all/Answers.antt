use Rattle.std.proofs.Common.{List, ap, sym, ◌∙◌, length}
use Rattle.std.proofs.lemmas.List.{length-set, at_drop_all}
use Rattle.ae_tree.specs.declared.tree.NameAt.{NameAt}
use Rattle.ae_tree.specs.Form.{bare_names}
use Rattle.ae_groups.specs.Contexts.{known_groups, with_needed}
use Rattle.ae_groups.proofs.PermLemmas.{next_is_known}
use Rattle.ae_groups.proofs.context.GroupContext.know_all.Goals as goal

pub loop-group-preserved : goal.loop-group-preserved
loop-group-preserved c = record {
  rest = next_is_known c.args.needs.now c.args.groups.now c.loop-group.group-index _ _ (known_groups c.args.self.now)
      (known_groups c.loop-group.self) (known_groups c.set.new.self) c.loop-group-test.true c.loop-group.invariant.rest
      c.permission_at_start.ensures c.set.ensures.groups;
  table = ap length c.set.ensures.items ∙ length-set c.loop-group.self.perms.items _ _ ∙ c.loop-group.invariant.table;
}

pub returns-clause-groups : goal.returns-clause-groups
returns-clause-groups c = sym (c.loop-group.invariant.rest
    ∙ at_drop_all (λ (xs : List NameAt). with_needed c.args.needs.now (bare_names xs) (known_groups c.loop-group.self))
    c.args.groups.now c.loop-group.group-index c.loop-group-test.false)
