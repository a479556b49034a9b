use Rattle.std.proofs.Common.{subst, sym}
use Rattle.ae_semantics.specs.Places.{Address}
use Rattle.ae_judge.specs.Tabled.{code_of}
use Rattle.ae_reads.specs.Views.{address}
use Rattle.ae_reads.proofs.WalkLemmas.{GoesOn, goes_on_by_number, fails_by_number}
use Rattle.std.proofs.Common.{drop, ◌+◌}
use Rattle.ae_reads.proofs.walks.walk_noting.Goals as goal

pub returns-in-Err : goal.returns-in-Err
returns-in-Err c =
    let at = address c.loop-x.base c.loop-x.fields.items in
    fails_by_number (code_of c.args.tabled.now) c.args.env.now c.args.path.now c.as_slice-x-items.result.now
    c.loop-x.x-index _ at c.loop-x.place c.in-Err.stop c.loop-x-test.true c.loop-x.invariant (c.in-Err.ensures at)

pub loop-x-preserved : goal.loop-x-preserved
loop-x-preserved c =
    let p = code_of c.args.tabled.now in
    let xs = c.as_slice-x-items.result.now in
    let at = address c.loop-x.base c.loop-x.fields.items in
    subst (λ (a : Address). GoesOn p c.args.env.now c.args.path.now (drop (c.loop-x.x-index + 1) xs) a
    c.in-Ok.next.place) (sym c.in-Ok-note.ensures)
    (goes_on_by_number p c.args.env.now c.args.path.now xs c.loop-x.x-index _ at c.loop-x.place c.in-Ok.next
    c.loop-x-test.true c.loop-x.invariant (c.in-Ok.ensures at))
