use Rattle.std.proofs.Common.{ℕ, List, sym, ◌∙◌}
use Rattle.std.proofs.lemmas.List.{at_drop_all}
use Rattle.ae_rules.specs.Groups.{forget}
use Rattle.ae_groups.specs.Contexts.{known_groups}
use Rattle.ae_groups.proofs.PermLemmas.{next_is_forgotten}
use Rattle.ae_groups.proofs.context.GroupContext.forget.Goals as goal

pub loop-g-preserved : goal.loop-g-preserved
loop-g-preserved c = record {
  rest = next_is_forgotten c.args.gs.now c.loop-g.g-index _ (known_groups c.args.self.now)
      (known_groups c.loop-g.self) (known_groups c.forget_one.new.self) c.loop-g-test.true c.loop-g.invariant.rest
      c.forget_one.ensures.groups;
  table = c.forget_one.ensures.table ∙ c.loop-g.invariant.table;
}

pub returns-clause-groups : goal.returns-clause-groups
returns-clause-groups c = sym (c.loop-g.invariant.rest
    ∙ at_drop_all (λ (xs : List ℕ). forget xs (known_groups c.loop-g.self)) c.args.gs.now c.loop-g.g-index
    c.loop-g-test.false)
