use Rattle.std.proofs.Common.{[], rules}
use Rattle.ae_semantics.specs.Places.{InLocal}
use Rattle.ae_judge.specs.Tabled.{code_of}
use Rattle.ae_reads.proofs.WalkLemmas.{goes_on_by_number, fails_by_number}
use Rattle.ae_reads.specs.Views.{base_at, field_at}
use Rattle.ae_reads.proofs.walks.walk.Goals as goal

pub loop-x-init : goal.loop-x-init
loop-x-init c = (record { base = InLocal c.args.path.now.root.name; fields = [] }, search rules)

pub returns-in-Err : goal.returns-in-Err
returns-in-Err c = fails_by_number (code_of c.args.tabled.now) c.args.env.now c.args.path.now
    c.as_slice-x-items.result.now c.loop-x.x-index _ c.loop-x.invariant.0 c.loop-x.place c.in-Err.stop
    c.loop-x-test.true c.loop-x.invariant.1 (c.in-Err.ensures c.loop-x.invariant.0)

pub loop-x-preserved : goal.loop-x-preserved
loop-x-preserved c =
    let at = c.loop-x.invariant.0 in
    let next = c.in-Ok.next in (
      field_at (base_at at next.member) next.number,
      goes_on_by_number (code_of c.args.tabled.now) c.args.env.now c.args.path.now
          c.as_slice-x-items.result.now c.loop-x.x-index _ at c.loop-x.place next
          c.loop-x-test.true c.loop-x.invariant.1 (c.in-Ok.ensures at),
    )
