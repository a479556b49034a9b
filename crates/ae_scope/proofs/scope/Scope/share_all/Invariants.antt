use Rattle.std.proofs.Common.{◌≡◌, drop, length}
use Rattle.ae_rules.specs.Statements.{while_split}
use Rattle.ae_scope.specs.Scope.{context_of}
use Rattle.ae_scope.specs.Grows.{Grows}
use Rattle.ae_scope.proofs.scope.Scope.share_all.Given as goal

-- the rest of the groups are shared from here as all are from the beginning
abbrev pub invariant-loop-group : goal.invariant-loop-group
invariant-loop-group l = record {
  rest : while_split l.groups (context_of l.initial.self)
      ≡ while_split (drop l.group-index l.groups) (context_of l.self);
  known : l.self.known.items ≡ l.initial.self.known.items;
  table : length l.self.groups.perms.items ≡ length l.initial.self.groups.perms.items;
  grows : Grows l.initial.self l.self;
}
