use Rattle.ae_unsplit.proofs.MethodLemmas.{one_and_rest}
use Rattle.ae_unsplit.proofs.unsplit.is_unsplit.Goals as goal

pub returns-then-not-is_unsplit_block : goal.returns-then-not-is_unsplit_block
returns-then-not-is_unsplit_block c whole =
    c.if-not-is_unsplit_block.ensures
    ((one_and_rest c.as_slice-method-items.result.now c.loop-method.method-index c.method-item.result
    c.loop-method-test.true c.method-item.is).0 (c.loop-method.invariant.0 whole)).0

pub loop-method-preserved : goal.loop-method-preserved
loop-method-preserved c =
    let step = one_and_rest c.as_slice-method-items.result.now c.loop-method.method-index c.method-item.result
    c.loop-method-test.true c.method-item.is in (
      λ whole. (step.0 (c.loop-method.invariant.0 whole)).1,
      λ rest. c.loop-method.invariant.1 (step.1 (c.if-not-is_unsplit_block.ensures, rest)),
    )
