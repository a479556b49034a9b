use Rattle.std.proofs.Common.{rules, refl, ap, ◌∙◌, ◌≡◌, w64, to_z, of_z, []}
use Rattle.ae_values.specs.Shown.{shown_tree}
use Rattle.ae_semantics.specs.Values.{Owned}
use Rattle.ae_values.specs.Inside.{item_changed}
use Rattle.ae_values.proofs.ItemLemmas.{object_with_item, object_stays_measured}
use Rattle.ae_values.proofs.value.Val.set_own_item.Goals as goal

pub returns-in-Object-clause-value : goal.returns-in-Object-clause-value
returns-in-Object-clause-value c =
    let same : to_z w64 (of_z w64 c.args.n) ≡ c.args.n = search rules in
    object_with_item c.args.self.now c.in-Object.object _ c.deref_mut.result.now [] [] c.args.at c.args.n
    c.in-Object.is c.deref_mut.ensures.value refl
    (c.set_own_item.ensures.value
    ∙ ap (λ m. item_changed [] c.args.at m (Owned (shown_tree c.deref_mut.result.now))) same)

pub returns-in-Object-clause-measured : goal.returns-in-Object-clause-measured
returns-in-Object-clause-measured c measured =
    object_stays_measured c.args.self.now c.in-Object.object _ c.deref_mut.result.now c.in-Object.is
    c.deref_mut.ensures.value c.set_own_item.ensures.measured measured
