use Rattle.ae_frames.proofs.LendLemmas.{lent_one_more}
use Rattle.ae_frames.proofs.lending.lend.Goals as goal

pub loop-at-preserved : goal.loop-at-preserved
loop-at-preserved c = lent_one_more c.args.new.now c.args.needs.now c.loop-at.at _ c.args.env.now c.loop-at.env
    c.lend_for.new.env c.loop-at.lending c.lend_for.new.lending c.loop-at-test.true c.loop-at.invariant
    c.in-Ok.ensures.got c.in-Ok.ensures.lent c.lend_for.ensures.bound c.lend_for.ensures.waiting
    c.lend_for.ensures.shapes
