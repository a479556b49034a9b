use Rattle.std.proofs.Common.{List, ap, sym, ◌∙◌, length}
use Rattle.std.proofs.lemmas.List.{length-set, at_drop_all}
use Rattle.ae_tree.specs.declared.tree.NameAt.{NameAt}
use Rattle.ae_tree.specs.Form.{bare_names}
use Rattle.ae_rules.specs.Lookups.{has_name}
use Rattle.ae_rules.specs.Groups.{with_all}
use Rattle.ae_groups.specs.Contexts.{known_groups}
use Rattle.ae_groups.proofs.PermLemmas.{next_is_set}
use Rattle.ae_groups.proofs.context.GroupContext.set_all.Goals as goal

pub set-requires : goal.set-requires
set-requires c = rw c.loop-g.invariant.table (c.requires c.loop-g.g-index _ c.loop-g-test.true)

pub loop-g-preserved : goal.loop-g-preserved
loop-g-preserved c = record {
  rest = next_is_set c.args.gs.now c.loop-g.g-index _ c.args.perm (known_groups c.args.self.now)
      (known_groups c.loop-g.self) (known_groups c.set.new.self) c.loop-g-test.true c.loop-g.invariant.rest
      c.set.ensures.groups;
  table = ap length c.set.ensures.items ∙ length-set c.loop-g.self.perms.items _ _ ∙ c.loop-g.invariant.table;
}

pub returns-clause-groups : goal.returns-clause-groups
returns-clause-groups c = sym (c.loop-g.invariant.rest
    ∙ at_drop_all (λ (xs : List NameAt). with_all (has_name (bare_names xs)) c.args.perm (known_groups c.loop-g.self))
    c.args.gs.now c.loop-g.g-index c.loop-g-test.false)
