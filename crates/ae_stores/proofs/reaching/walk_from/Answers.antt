use Rattle.std.proofs.Common.{◌≡◌, subst, sym, drop, ◌+◌}
use Rattle.ae_semantics.specs.Places.{Address, steps}
use Rattle.ae_judge.specs.Tabled.{code_of}
use Rattle.ae_reads.specs.Answers.{state_seen}
use Rattle.ae_reads.specs.Views.{address, place_at, found_at, stepped_at}
use Rattle.ae_stores.proofs.StepLemmas.{left_after_step, step_fails}
use Rattle.ae_stores.proofs.reaching.walk_from.Goals as goal

pub returns-in-Err : goal.returns-in-Err
returns-in-Err c =
    let p = code_of c.args.tabled.now in
    let s = state_seen c.args.env.now in
    let xs = c.args.steps.now in
    let at = address c.loop-x.base c.loop-x.fields.items in
    step_fails p s (steps p s xs (found_at c.args.fields.now.items c.args.from)) xs c.loop-x.x-index _
    (place_at at c.loop-x.place) c.in-Err.stop c.loop-x-test.true c.loop-x.invariant (c.in-Err.ensures at)

pub loop-x-preserved : goal.loop-x-preserved
loop-x-preserved c =
    let p = code_of c.args.tabled.now in
    let s = state_seen c.args.env.now in
    let xs = c.args.steps.now in
    let at = address c.loop-x.base c.loop-x.fields.items in
    let all = steps p s xs (found_at c.args.fields.now.items c.args.from) in
    subst (λ (a : Address). all ≡ steps p s (drop (c.loop-x.x-index + 1) xs) (place_at a c.in-Ok.next.place))
    (sym c.in-Ok-note.ensures)
    (left_after_step p s all xs c.loop-x.x-index _ (place_at at c.loop-x.place) (stepped_at at c.in-Ok.next)
    c.loop-x-test.true c.loop-x.invariant (c.in-Ok.ensures at))
