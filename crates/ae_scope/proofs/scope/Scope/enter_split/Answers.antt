use Rattle.std.proofs.Common.{get_or}
use Rattle.ae_groups.specs.Contexts.{known_groups}
use Rattle.ae_scope.proofs.from_groups.PermLemmas.{known_are_named}
use Rattle.ae_scope.proofs.from_groups.TurnLemmas.{split_are_known}
use Rattle.ae_scope.proofs.scope.Scope.enter_split.Goals as goal

pub share_all-requires-clause-named : goal.share_all-requires-clause-named
share_all-requires-clause-named c =
    let s = c.args.self.now in
    known_are_named s.groups c.args.groups.now
    (split_are_known (known_groups s.groups) c.args.groups.now _ c.in_ok-may_split.ensures)

pub share_all-requires-clause-listed : goal.share_all-requires-clause-listed
share_all-requires-clause-listed c =
    let s = c.args.self.now in
    λ i d l. s.listed (get_or c.args.groups.now i d).name
    (split_are_known (known_groups s.groups) c.args.groups.now _ c.in_ok-may_split.ensures i d l)
