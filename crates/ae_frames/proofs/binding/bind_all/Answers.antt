use Rattle.std.proofs.Common.{◌∷◌, reverse, subst, length, ◌≡◌, arith}
use Rattle.ae_frames.proofs.BindingLemmas.{BoundSoFar, bound_one_more, last_is_first, no_arguments_left}
use Rattle.ae_frames.proofs.BindingLemmas.{no_parameters_left}
use Rattle.ae_frames.proofs.binding.bind_all.Goals as goal

pub loop-taker-preserved : goal.loop-taker-preserved
loop-taker-preserved c =
    let all = c.args.takers.items in
    let alls = c.args.args.items in
    let old = c.args.env.now in
    let e = c.loop-taker.env in
    let t = c.in-Some.taker in
    let x = c.in-Some-pop.arg in
    let ts = c.pop.new.self.items in
    let xs = c.pop-in-Some.new.self.items in
    let bs = c.loop-taker.back.items in
    bound_one_more all alls old e c.bind_one.new.env t x (reverse ts) (reverse xs) bs c.bind_one.new.back.items
    (subst (λ zs. BoundSoFar all alls old e (t ∷ reverse ts) zs bs)
    (last_is_first c.loop-taker.args.items xs x c.in-Some-pop.ensures.items)
    (subst (λ zs. BoundSoFar all alls old e zs (reverse c.loop-taker.args.items) bs)
    (last_is_first c.loop-taker.takers.items ts t c.in-Some.ensures.items) c.loop-taker.invariant))
    c.in-Ok.ensures.bound c.in-Ok.ensures.shapes c.bind_one.ensures.waiting c.in-Ok.ensures.back

pub returns-in-None-clause-bound : goal.returns-in-None-clause-bound
returns-in-None-clause-bound c =
    let none : length c.loop-taker.args.items ≡ 0 = omega (arith, c.loop-taker.args.ok.0, c.in-None.ensures.cases.0) in
    no_arguments_left c.args.takers.items c.args.args.items c.args.env.now c.loop-taker.env
    (reverse c.loop-taker.takers.items) c.loop-taker.args.items c.loop-taker.back.items none c.loop-taker.invariant

pub returns-clause-bound : goal.returns-clause-bound
returns-clause-bound c =
    let none : length c.loop-taker.takers.items ≡ 0 = omega (
      arith,
      c.loop-taker.takers.ok.0,
      c.in_default.ensures.cases.0,
    ) in
    no_parameters_left c.args.takers.items c.args.args.items c.args.env.now c.loop-taker.env
    c.loop-taker.takers.items (reverse c.loop-taker.args.items) c.loop-taker.back.items none c.loop-taker.invariant
