use Rattle.ae_graph.specs.Opened.{kept_of}
use Rattle.ae_graph.proofs.Waiting.{after_uses-more}
use Rattle.ae_graph.proofs.waits.OpenUses.put_all.Goals as goal

pub loop-one-preserved : goal.loop-one-preserved
loop-one-preserved c =
    λ r. after_uses-more c.args.stmt r (kept_of c.args.self.now r) (kept_of c.loop-one.self r)
    (kept_of c.put.new.self r) c.args.uses.now c.loop-one.one-index _ c.loop-one-test.true
    (c.loop-one.invariant r) (c.in_ok-put.ensures r)
