use Rattle.std.proofs.Common.{◌≡◌, List, refl, subst, ap, sym, ◌∙◌}
use Rattle.ae_tree.specs.declared.tree.NameAt.{NameAt}
use Rattle.ae_tree.specs.declared.tree.Param.{Param}
use Rattle.ae_tree.specs.declared.tree.GroupNeed.{GroupNeed}
use Rattle.ae_tree.specs.Form.{bare_names}
use Rattle.ae_tree.specs.Names.{io}
use Rattle.ae_tree.specs.Shown.{definition}
use Rattle.ae_rules.specs.declared.held.GroupPerm.{GroupPerm}
use Rattle.ae_rules.specs.Answers.{Leaves}
use Rattle.ae_rules.specs.Verdict.{Holds}
use Rattle.ae_rules.specs.Context.{Context}
use Rattle.ae_rules.specs.Lookups.{groups_of, own_kind}
use Rattle.ae_judge.specs.Tabled.{code_of}
use Rattle.ae_scope.specs.Scope.{context_of, with_known}
use Rattle.ae_groups.specs.Contexts.{needed}
use Rattle.ae_check.specs.Methods.{with_groups_needed, with_params}
use Rattle.ae_check.proofs.MethodLemmas.{no_receiver_yet, starts_so}
use Rattle.ae_check.proofs.methods.start.Goals as goal

pub add_me-requires-clause-new : goal.add_me-requires-clause-new
add_me-requires-clause-new c =
    let ns = c.args.method.now.needs in
    let c0 = context_of c.args.scope.now in
    let c2 = context_of c.know_own_groups.new.scope in
    let first : context_of c.know.new.self ≡ with_known io (needed ns io) c0 =
    c.in_ok-know.ensures.context ∙ ap (λ (q : GroupPerm). with_known io q c0) (c.permission_at_start.ensures
    ∙ ap (λ (xs : List GroupNeed). needed xs io) c.as_slice-needs.ensures) in
    let third : context_of c.know_groups.new.scope ≡ with_groups_needed ns (bare_names c.args.method.now.groups) c2 =
    c.in_ok-know_groups.ensures.context
    ∙ ap (λ (xs : List GroupNeed). with_groups_needed xs (bare_names c.as_slice.result.now) c2) c.as_slice-needs.ensures
    ∙ ap (λ (gs : List NameAt). with_groups_needed ns (bare_names gs) c2) c.as_slice.ensures in
    no_receiver_yet ns (groups_of (own_kind (code_of c.args.tabled.now) c.args.method.now.class))
    (bare_names c.args.method.now.groups) c0 (context_of c.know.new.self) c2 (context_of c.know_groups.new.scope)
    c.requires.empty.context first c.in_ok-know_own_groups.ensures.context third

pub returns-clause-context : goal.returns-clause-context
returns-clause-context c =
    let ns = c.args.method.now.needs in
    let m = definition c.args.method.now in
    let c0 = context_of c.args.scope.now in
    let c2 = context_of c.know_own_groups.new.scope in
    let c4 = context_of c.add_me.new.scope in
    let first : context_of c.know.new.self ≡ with_known io (needed ns io) c0 =
    c.in_ok-know.ensures.context ∙ ap (λ (q : GroupPerm). with_known io q c0) (c.permission_at_start.ensures
    ∙ ap (λ (xs : List GroupNeed). needed xs io) c.as_slice-needs.ensures) in
    let third : context_of c.know_groups.new.scope ≡ with_groups_needed ns (bare_names c.args.method.now.groups) c2 =
    c.in_ok-know_groups.ensures.context
    ∙ ap (λ (xs : List GroupNeed). with_groups_needed xs (bare_names c.as_slice.result.now) c2) c.as_slice-needs.ensures
    ∙ ap (λ (gs : List NameAt). with_groups_needed ns (bare_names gs) c2) c.as_slice.ensures in
    subst (λ (k : Context). Leaves (Holds k) (context_of c.add_params.new.scope) c.add_params.result)
    (ap (λ (xs : List Param). with_params xs c4) c.as_slice-2.ensures
    ∙ sym (starts_so (code_of c.args.tabled.now) m c0 (context_of c.know.new.self) c2
    (context_of c.know_groups.new.scope) c4 (with_params m.params c4) c.requires.empty.context first
    c.in_ok-know_own_groups.ensures.context third c.in_ok-add_me.ensures.context refl))
    c.add_params.ensures.context
