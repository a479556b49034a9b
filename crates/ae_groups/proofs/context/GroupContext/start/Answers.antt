use Rattle.std.proofs.Common.{Some, List, ap, ◌∙◌}
use Rattle.ae_tree.specs.declared.tree.NameAt.{NameAt}
use Rattle.ae_tree.specs.declared.tree.GroupNeed.{GroupNeed}
use Rattle.ae_tree.specs.Form.{bare_names}
use Rattle.ae_tree.specs.Names.{io}
use Rattle.ae_tree.specs.Shown.{code, definition}
use Rattle.ae_rules.specs.declared.held.GroupPerm.{GroupPerm}
use Rattle.ae_groups.specs.Contexts.{known_groups, with_permission, needed, with_needed}
use Rattle.ae_groups.proofs.PermLemmas.{known_at_start}
use Rattle.ae_groups.proofs.context.GroupContext.start.Goals as goal

pub returns-clause-groups : goal.returns-clause-groups
returns-clause-groups c =
    let ns = c.args.method.now.needs in
    let g0 = known_groups c.in_ok-groups.groups in
    let g2 = known_groups c.know_own.new.self in
    known_at_start (code c.args.p.now) (definition c.args.method.now) g0 (known_groups c.set.new.self) g2
    (known_groups c.know_all.new.self) c.in_ok-groups.ensures.groups
    (c.set.ensures.groups ∙ ap (λ (q : GroupPerm). with_permission io (Some q) g0) (c.permission_at_start.ensures
    ∙ ap (λ (xs : List GroupNeed). needed xs io) c.as_slice-needs.ensures))
    c.know_own.ensures.groups
    (c.know_all.ensures.groups
    ∙ ap (λ (xs : List GroupNeed). with_needed xs (bare_names c.as_slice.result.now) g2) c.as_slice-needs.ensures
    ∙ ap (λ (gs : List NameAt). with_needed ns (bare_names gs) g2) c.as_slice.ensures)
