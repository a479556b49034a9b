use Rattle.ae_scope.proofs.ReplayLemmas.{grows_then, replay_step}
use Rattle.ae_scope.proofs.scope.Scope.replay.Goals as goal

pub loop-change-preserved : goal.loop-change-preserved
loop-change-preserved c = record {
  rest = replay_step c.args.changes.now c.loop-change.change-index _ c.loop-change.self.locals.items
      c.put.new.self.locals.items c.args.self.now.locals.items c.loop-change-test.true c.loop-change.invariant.rest
      c.in_ok-put.ensures.locals;
  grows = grows_then c.args.self.now c.loop-change.self c.put.new.self c.loop-change.invariant.grows
      c.in_ok-put.ensures.grows;
}
