use Rattle.ae_scope.specs.Scope.{context_of}
use Rattle.ae_check.proofs.MovedLemmas.{still_new}
use Rattle.ae_check.proofs.simple.judge_let.Goals as goal

pub declare-requires-clause-new : goal.declare-requires-clause-new
declare-requires-clause-new c =
    still_new _ (context_of c.args.scope.now) (context_of c.release.new.scope) c.args.x.name c.in_ok-form.ensures.new
    c.in_ok-release.ensures.context
