use Rattle.std.proofs.Common.{◌∙◌, ◌++◌, ap, map, List, ℕ}
use Rattle.ae_values.specs.Binding.{bound_in}
use Rattle.ae_values.specs.Environments.{bound_under, running_binds, waiting_binds}
use Rattle.ae_values.specs.Shapes.{NameShape, shapes}
use Rattle.ae_frames.specs.Entries.{need_names}
use Rattle.ae_frames.specs.Givens.{names_bound_by}
use Rattle.ae_frames.specs.Bounds.{shapes_by}
use Rattle.ae_frames.specs.Granting.{groups_seen, holder_by}
use Rattle.ae_frames.specs.Shown.{got_shape, shapes_to}
use Rattle.ae_frames.proofs.NameLemmas.{first_differ, rest_differ}
use Rattle.ae_frames.proofs.OpenLemmas.{granted_differ, granted_are_free, granted_are_shaped, locals_opened}
use Rattle.ae_frames.proofs.OpenLemmas.{groups_opened, waits_behind}
use Rattle.ae_frames.proofs.opening.open.Goals as goal

pub bind_all-requires-clause-apart : goal.bind_all-requires-clause-apart
bind_all-requires-clause-apart c = first_differ (names_bound_by c.args.takers.items) (need_names c.args.needs.now) c.requires

pub grant_all-requires-clause-apart : goal.grant_all-requires-clause-apart
grant_all-requires-clause-apart c = granted_differ c.in-Ok.lending.granted.items
    (holder_by (groups_seen c.args.env.now) c.args.new.now) (groups_seen c.args.env.now) c.args.needs.now
    c.in-Ok.ensures.got (rest_differ (names_bound_by c.args.takers.items) (need_names c.args.needs.now) c.requires)

pub grant_all-requires-clause-free : goal.grant_all-requires-clause-free
grant_all-requires-clause-free c = λ y has. granted_are_free c.args.takers.items c.args.args.items
    c.in-Ok.lending.granted.items (holder_by (groups_seen c.args.env.now) c.args.new.now) (groups_seen c.args.env.now)
    c.args.needs.now (bound_under c.enter-base.new.self) (bound_under c.bind_all.new.env) y c.requires
    c.in-Ok.ensures.got c.in-Ok-bind_all.ensures.bound (ap (λ bs. bound_in bs y) c.enter-base.ensures.running) has

pub returns-in-Ok-grant_all-clause-locals : goal.returns-in-Ok-grant_all-clause-locals
returns-in-Ok-grant_all-clause-locals c = locals_opened c.args.takers.items c.args.args.items
    c.in-Ok.lending.granted.items (bound_under c.enter-base.new.self) (bound_under c.bind_all.new.env)
    (bound_under c.grant_all.new.env) c.in-Ok-grant_all.ensures.bound c.in-Ok-bind_all.ensures.bound
    (λ y. ap (λ bs. bound_in bs y) c.enter-base.ensures.running)
    (λ y has. granted_are_free c.args.takers.items c.args.args.items
    c.in-Ok.lending.granted.items (holder_by (groups_seen c.args.env.now) c.args.new.now) (groups_seen c.args.env.now)
    c.args.needs.now (bound_under c.enter-base.new.self) (bound_under c.bind_all.new.env) y c.requires
    c.in-Ok.ensures.got c.in-Ok-bind_all.ensures.bound (ap (λ bs. bound_in bs y) c.enter-base.ensures.running) has)

pub returns-in-Ok-grant_all-clause-groups : goal.returns-in-Ok-grant_all-clause-groups
returns-in-Ok-grant_all-clause-groups c = groups_opened c.args.takers.items c.args.args.items
    c.in-Ok.lending.granted.items (bound_under c.enter-base.new.self) (bound_under c.bind_all.new.env)
    (bound_under c.grant_all.new.env) _ c.in-Ok-grant_all.ensures.bound c.in-Ok-bind_all.ensures.bound
    (λ y. ap (λ bs. bound_in bs y) c.enter-base.ensures.running) c.in-Ok.ensures.got

pub returns-in-Ok-grant_all-clause-shapes : goal.returns-in-Ok-grant_all-clause-shapes
returns-in-Ok-grant_all-clause-shapes c =
    let ts = c.args.takers.items in
    let xs = c.args.args.items in
    let gs = c.in-Ok.lending.granted.items in
    c.in-Ok-grant_all.ensures.shapes
    ∙ ap (λ (zs : List (ℕ × NameShape)). zs ++ shapes_to gs) (c.in-Ok-bind_all.ensures.shapes
    ∙ ap (λ bs. shapes bs ++ shapes_by ts xs) c.enter-base.ensures.running)
    ∙ ap (λ (zs : List (ℕ × NameShape)). shapes_by ts xs ++ zs)
    (granted_are_shaped gs ∙ ap (map got_shape) c.in-Ok.ensures.got)

pub returns-in-Ok-grant_all-clause-waits : goal.returns-in-Ok-grant_all-clause-waits
returns-in-Ok-grant_all-clause-waits c =
    ap bound_in (waits_behind (waiting_binds c.grant_all.new.env) (waiting_binds c.lend.new.env)
    (running_binds c.lend.new.env) c.enter-base.result
    (c.grant_all.ensures.waiting ∙ c.bind_all.ensures.waiting ∙ c.enter-base.ensures.waiting) c.enter-base.ensures.base)
    ∙ c.in-Ok.ensures.bound
