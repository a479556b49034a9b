use Rattle.std.proofs.Common.{reverse, subst, length, ◌≡◌, arith}
use Rattle.ae_frames.proofs.BindingLemmas.{GrantedSoFar, granted_one_more, last_is_first, no_groups_left}
use Rattle.ae_frames.proofs.binding.grant_all.Goals as goal

pub loop-one-preserved : goal.loop-one-preserved
loop-one-preserved c =
    let all = c.args.granted.items in
    let old = c.args.env.now in
    let e = c.loop-one.env in
    let g = c.in-Some.one in
    let gs = c.pop.new.self.items in
    granted_one_more all old e c.grant_one.new.env g (reverse gs)
    (subst (λ zs. GrantedSoFar all old e zs) (last_is_first c.loop-one.granted.items gs g c.in-Some.ensures.items)
    c.loop-one.invariant)
    c.in-Ok.ensures.bound c.in-Ok.ensures.shapes c.grant_one.ensures.waiting

pub returns-clause-bound : goal.returns-clause-bound
returns-clause-bound c =
    let none : length c.loop-one.granted.items ≡ 0 = omega (
      arith,
      c.loop-one.granted.ok.0,
      c.in_default.ensures.cases.0,
    ) in
    no_groups_left c.args.granted.items c.args.env.now c.loop-one.env c.loop-one.granted.items none
    c.loop-one.invariant
