use Rattle.std.proofs.Common.{refl}
use Rattle.std.proofs.lemmas.Option.{slice_get_read, slice_get_past}
use Rattle.ae_semantics.specs.Values.{Owned, put_at}
use Rattle.ae_values.specs.Inside.{object_or}
use Rattle.ae_values.specs.Shown.{shown, tree_shown}
use Rattle.ae_values.proofs.ValueLemmas.{pass_with_new}
use Rattle.ae_values.proofs.StoreLemmas.{member_changed, no_member_changed}
use Rattle.ae_values.proofs.store.put_in.Goals as goal

pub returns-in-Some-clause-trees : goal.returns-in-Some-clause-trees
returns-in-Some-clause-trees c =
    let ms = c.args.members.now in
    member_changed ms.items c.args.number c.in-Some.member.now c.put.new.self
    (λ t. object_or t (put_at c.args.fields.now (shown c.args.new) (Owned t)))
    (slice_get_read ms.items ms.len c.args.number c.in-Some.member.now ms.ok.0 (c.in-Some.ensures.variant.0 refl)
    c.in-Some.ensures.value) c.put.ensures.tree

pub returns-in-Some-clause-measured : goal.returns-in-Some-clause-measured
returns-in-Some-clause-measured c = pass_with_new (λ x. (tree_shown x).measured) c.args.members.now.items c.args.number
    c.put.new.self c.requires.measured c.put.ensures.measured

pub returns-in-None-clause-trees : goal.returns-in-None-clause-trees
returns-in-None-clause-trees c = no_member_changed c.args.members.now.items c.args.number
    (λ t. object_or t (put_at c.args.fields.now (shown c.args.new) (Owned t)))
    (slice_get_past c.args.members.now.items c.args.number c.in-None.ensures.item.3)
