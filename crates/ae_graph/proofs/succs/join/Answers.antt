use Rattle.std.proofs.Common.{ap, ◌∙◌, ◌++◌, ◌∷◌, ◌<◌, [], refl, arith, length, get_or, List, ℕ}
use Rattle.std.proofs.lemmas.List.{get_or_default}
use Rattle.std.proofs.lemmas.List.Elements.{All-get_or}
use Rattle.ae_graph.proofs.Rows.{join_more}
use Rattle.ae_graph.proofs.succs.join.Goals as goal

pub loop-from-preserved : goal.loop-from-preserved
loop-from-preserved c =
    let k = c.loop-from.from-index in
    let old = c.args.succs.now.items in
    let now = c.loop-from.succs.items in
    let m : get_or c.args.froms.now k 0 < length old = All-get_or (λ i. i < length old) c.args.froms.now k
    0 c.loop-from-test.true c.requires.within in
    let n : get_or c.args.froms.now k 0 < length now = omega (arith, m, c.loop-from.invariant.len) in
    let e = c.index_mut-waiters.ensures.value
    ∙ get_or_default now (get_or c.args.froms.now k 0) c.index_mut-waiters.result.now [] n in
    join_more c.args.froms.now c.args.to old now _ k c.push.new.self c.requires.rising c.requires.within
    c.loop-from-test.true c.loop-from.invariant
    (c.in_ok-push.ensures.ok ∙ ap (λ (l : List ℕ). l ++ c.args.to ∷ []) e) refl
