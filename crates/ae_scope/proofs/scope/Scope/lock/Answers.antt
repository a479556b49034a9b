use Rattle.std.proofs.Common.{◌≡◌, OnOk, subst, ap, ◌∙◌}
use Rattle.ae_rules.specs.Context.{Context}
use Rattle.ae_scope.specs.Scope.{context_of, all_held_back}
use Rattle.ae_scope.proofs.from_groups.PermLemmas.{known_is_within}
use Rattle.ae_scope.proofs.RegroupLemmas.{locked_then_held_back}
use Rattle.ae_scope.proofs.ReplayLemmas.{grows_after}
use Rattle.ae_scope.proofs.scope.Scope.lock.Goals as goal

pub set_group-requires-clause-within : goal.set_group-requires-clause-within
set_group-requires-clause-within c = known_is_within c.args.self.now.groups.perms.items c.args.name c.requires

pub set_group-requires-clause-listed : goal.set_group-requires-clause-listed
set_group-requires-clause-listed c = c.args.self.now.listed c.args.name c.requires

pub returns-clause-context : goal.returns-clause-context
returns-clause-context c =
    let P : Context → Type 0 = λ d. OnOk c.hold_all_back.result (context_of c.hold_all_back.new.self ≡ d) in
    subst P (ap all_held_back c.in_ok-set_group.ensures.context ∙ locked_then_held_back c.args.name (context_of c.args.self.now))
    c.hold_all_back.ensures.context

pub returns-clause-grows : goal.returns-clause-grows
returns-clause-grows c = grows_after c.hold_all_back.result c.args.self.now c.set_group.new.self
    c.hold_all_back.new.self c.in_ok-set_group.ensures.grows c.hold_all_back.ensures.grows
