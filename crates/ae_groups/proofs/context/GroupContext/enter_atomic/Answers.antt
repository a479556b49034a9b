use Rattle.std.proofs.Common.{ap, ◌∙◌}
use Rattle.ae_groups.specs.declared.context.GroupContext.{GroupContext}
use Rattle.ae_groups.specs.Contexts.{known_groups}
use Rattle.ae_groups.proofs.PermLemmas.{others_are_held_back}
use Rattle.ae_groups.proofs.context.GroupContext.enter_atomic.Goals as goal

pub returns-clause-answer : goal.returns-clause-answer
returns-clause-answer c = others_are_held_back c.args.g (known_groups c.args.self.now) (known_groups c.in_ok-inside.inside)
    (known_groups c.replace.new.dest) _ c.in_ok-may_lock.ensures c.in_ok-inside.ensures.groups
    (ap (λ (d : GroupContext). known_groups d) c.replace.ensures.after ∙ c.set.ensures.groups)
