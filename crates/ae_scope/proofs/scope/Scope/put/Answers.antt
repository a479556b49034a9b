use Rattle.std.proofs.Common.{arith, ◌<◌, ◌≤◌, length, sym, ◌∙◌, ap}
use Rattle.ae_scope.proofs.ChangeLemmas.{hold_past}
use Rattle.ae_scope.proofs.GrowLemmas.{grows_held}
use Rattle.ae_groups.specs.declared.context.GroupContext.{GroupContext}
use Rattle.ae_scope.proofs.scope.Scope.put.Goals as goal

pub returns-in_ok-push-clause-grows : goal.returns-in_ok-push-clause-grows
returns-in_ok-push-clause-grows c =
    let s = c.args.self.now in
    let l : c.args.change.slot < length s.locals.items = omega (arith, s.locals.ok.0) in
    grows_held s c.set_held.new.self c.args.change.slot c.args.change.held c.index.result.now l c.index.ensures
    c.set_held.ensures.locals (c.set_held.ensures.trail ∙ c.in_ok-push.ensures.items)
    (ap (λ (g : GroupContext). g.perms.items) c.set_held.ensures.groups) c.set_held.ensures.group_trail
    (ap length c.set_held.ensures.at)

pub returns-else-change-len-clause-locals : goal.returns-else-change-len-clause-locals
returns-else-change-len-clause-locals c =
    let s = c.args.self.now in
    let l : length s.locals.items ≤ c.args.change.slot = omega (arith, s.locals.ok.0) in
    sym (hold_past s.locals.items c.args.change.slot c.args.change.held l)
