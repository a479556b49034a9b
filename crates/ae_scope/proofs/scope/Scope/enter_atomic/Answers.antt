use Rattle.ae_groups.specs.Contexts.{known_groups}
use Rattle.ae_scope.proofs.RegroupLemmas.{locked_is_known}
use Rattle.ae_scope.proofs.scope.Scope.enter_atomic.Goals as goal

pub lock-requires : goal.lock-requires
lock-requires c = locked_is_known (known_groups c.args.self.now.groups) c.args.group _ c.in_ok-may_lock.ensures
