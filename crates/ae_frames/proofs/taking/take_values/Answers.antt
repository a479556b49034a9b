use Rattle.std.proofs.Common.{◌∙◌, reverse, subst}
use Rattle.ae_frames.proofs.BindingLemmas.{last_is_first}
use Rattle.ae_frames.proofs.ReturnLemmas.{ValuesSoFar, values_one_more}
use Rattle.ae_frames.proofs.taking.take_values.Goals as goal

pub loop-one-preserved : goal.loop-one-preserved
loop-one-preserved c =
    let all = c.args.back.items in
    let old = c.args.env.now in
    let e = c.loop-one.env in
    let b = c.in-Some.one in
    let bs = c.pop.new.self.items in
    let cs = c.loop-one.came.items in
    values_one_more all old e c.take_value-value.new.env b c.take_value-value.result (reverse bs) cs
    c.push.new.self.items
    (subst (λ zs. ValuesSoFar all old e zs cs) (last_is_first c.loop-one.back.items bs b c.in-Some.ensures.items)
    c.loop-one.invariant)
    c.take_value-value.ensures.came c.take_value-value.ensures.locals c.take_value-value.ensures.groups
    c.take_value-value.ensures.shapes c.take_value-value.ensures.waiting c.in-Ok.ensures.items

pub returns-in-Err-clause-groups : goal.returns-in-Err-clause-groups
returns-in-Err-clause-groups c = c.take_value-value.ensures.groups ∙ c.loop-one.invariant.seen_groups
