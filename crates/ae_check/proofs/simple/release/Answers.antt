use Rattle.ae_scope.specs.Scope.{context_of}
use Rattle.ae_check.proofs.from_scope.ReplayLemmas.{grows_then}
use Rattle.ae_check.proofs.MovedLemmas.{next_moves}
use Rattle.ae_check.proofs.simple.release.Goals as goal

pub loop-name-preserved : goal.loop-name-preserved
loop-name-preserved c = record {
  rest = next_moves c.args.names.now c.loop-name.name-index _ (context_of c.args.scope.now)
      (context_of c.loop-name.scope) (context_of c.hold.new.self) c.loop-name-test.true c.loop-name.invariant.rest
      c.in_ok-hold.ensures.context;
  grows = grows_then c.args.scope.now c.loop-name.scope c.hold.new.self c.loop-name.invariant.grows
      c.in_ok-hold.ensures.grows;
}
