use Rattle.std.proofs.Common.{sym, ◌∙◌}
use Rattle.ae_rules.specs.declared.held.GroupPerm.TheVariants as group
use Rattle.ae_groups.specs.Contexts.{known_groups}
use Rattle.ae_scope.specs.Scope.{context_of}
use Rattle.ae_scope.proofs.from_groups.PermLemmas.{known_is_within, permitted_is_known}
use Rattle.ae_scope.proofs.RegroupLemmas.{shared_is_held_back, unshared_stays}
use Rattle.ae_scope.proofs.scope.Scope.hold_back.Goals as goal

pub set_group-requires-clause-within : goal.set_group-requires-clause-within
set_group-requires-clause-within c =
    let s = c.args.self.now in
    known_is_within s.groups.perms.items c.args.name (permitted_is_known group.Shared (known_groups s.groups c.args.name)
    (sym c.is.ensures ∙ c.if-is.true))

pub set_group-requires-clause-listed : goal.set_group-requires-clause-listed
set_group-requires-clause-listed c =
    let s = c.args.self.now in
    s.listed c.args.name (permitted_is_known group.Shared (known_groups s.groups c.args.name)
    (sym c.is.ensures ∙ c.if-is.true))

pub returns-in_ok-set_group-clause-context : goal.returns-in_ok-set_group-clause-context
returns-in_ok-set_group-clause-context c = shared_is_held_back (context_of c.args.self.now) (context_of c.set_group.new.self)
    c.args.name (sym c.is.ensures ∙ c.if-is.true) c.in_ok-set_group.ensures.context

pub returns-else-is-clause-context : goal.returns-else-is-clause-context
returns-else-is-clause-context c = unshared_stays (context_of c.args.self.now) c.args.name
    (sym c.is.ensures ∙ c.if-is.false)
