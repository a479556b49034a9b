use Rattle.std.proofs.Common.{reverse, subst}
use Rattle.ae_frames.proofs.BindingLemmas.{last_is_first}
use Rattle.ae_frames.proofs.ReturnLemmas.{GroupsSoFar, groups_one_more}
use Rattle.ae_frames.proofs.taking.take_groups.Goals as goal

pub loop-one-preserved : goal.loop-one-preserved
loop-one-preserved c =
    let all = c.args.lent.items in
    let old = c.args.env.now in
    let e = c.loop-one.env in
    let l = c.in-Some.one in
    let ls = c.pop.new.self.items in
    let rs = c.loop-one.returned.items in
    groups_one_more all old e c.take_group-group.new.env l c.take_group-group.result (reverse ls) rs
    c.push.new.self.items
    (subst (λ zs. GroupsSoFar all old e zs rs) (last_is_first c.loop-one.lent.items ls l c.in-Some.ensures.items)
    c.loop-one.invariant)
    c.take_group-group.ensures.returned c.take_group-group.ensures.groups
    c.take_group-group.ensures.shapes c.take_group-group.ensures.waiting c.in-Ok.ensures.items
