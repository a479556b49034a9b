use Rattle.std.proofs.Common.{◌≡◌, ◌++◌, take}
use Rattle.std.specs.List.{filter}
use Rattle.ae_scope.specs.Scope.{context_of}
use Rattle.ae_uses.specs.Outside.{is_local_outside}
use Rattle.ae_uses.proofs.outside.put_locals.Given as goal

-- the visible ones of the names so far
abbrev pub invariant-loop-name : goal.invariant-loop-name
invariant-loop-name l = l.to.items
    ≡ l.initial.to.items ++ filter (is_local_outside (context_of l.scope)) (take l.name-index l.names)
