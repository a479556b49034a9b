use Rattle.std.proofs.Common.{rules, refl, ap, ◌∙◌, ◌≡◌, w64, to_z, of_z}
use Rattle.std.proofs.lemmas.Option.{slice_get_read, slice_get_past}
use Rattle.ae_semantics.specs.Values.{Owned}
use Rattle.ae_values.specs.Inside.{object_or, item_changed}
use Rattle.ae_values.specs.Shown.{shown_tree, tree_shown}
use Rattle.ae_values.proofs.ValueLemmas.{pass_with_new, passes_at_place}
use Rattle.ae_values.proofs.StoreLemmas.{member_changed, no_member_changed}
use Rattle.ae_values.proofs.store.set_item_in.Goals as goal

pub returns-in-Some-clause-trees : goal.returns-in-Some-clause-trees
returns-in-Some-clause-trees c =
    let ms = c.args.members.now in
    let is = c.args.fields.now in
    let same : to_z w64 (of_z w64 c.args.n) ≡ c.args.n = search rules in
    let t = shown_tree c.in-Some.member.now in
    member_changed ms.items c.args.number c.in-Some.member.now c.set_item.new.self
    (λ u. object_or u (item_changed is c.args.at c.args.n (Owned u)))
    (slice_get_read ms.items ms.len c.args.number c.in-Some.member.now ms.ok.0 (c.in-Some.ensures.variant.0 refl)
    c.in-Some.ensures.value)
    (ap (object_or t) (c.set_item.ensures.value ∙ ap (λ m. item_changed is c.args.at m (Owned t)) same))

pub returns-in-Some-clause-measured : goal.returns-in-Some-clause-measured
returns-in-Some-clause-measured c all =
    let ms = c.args.members.now in
    pass_with_new (λ x. (tree_shown x).measured) ms.items c.args.number c.set_item.new.self all
    (c.set_item.ensures.measured (passes_at_place (λ x. (tree_shown x).measured) ms.items c.args.number
    c.in-Some.member.now all
    (slice_get_read ms.items ms.len c.args.number c.in-Some.member.now ms.ok.0 (c.in-Some.ensures.variant.0 refl)
    c.in-Some.ensures.value)))

pub returns-in-None-clause-trees : goal.returns-in-None-clause-trees
returns-in-None-clause-trees c = no_member_changed c.args.members.now.items c.args.number
    (λ u. object_or u (item_changed c.args.fields.now c.args.at c.args.n (Owned u)))
    (slice_get_past c.args.members.now.items c.args.number c.in-None.ensures.item.3)
