use Rattle.std.proofs.Common.{ap, ◌∙◌, map}
use Rattle.std.proofs.lemmas.List.{take_all}
use Rattle.ae_values.specs.Shown.{tree_shown}
use Rattle.ae_values.proofs.ValueLemmas.{same_trees, same_measured}
use Rattle.ae_values.proofs.store.Store.copy.Goals as goal

pub invariant_of-result : goal.invariant_of-result
invariant_of-result c = same_measured c.loop-member.members.items c.self.inside.members.items
    (c.loop-member.invariant ∙ ap (map tree_shown)
    (take_all c.loop-member.member-index c.deref-member-items.result.now c.loop-member-test.false
    ∙ c.deref-member-items.ensures.value)) c.self.invariant

pub returns : goal.returns
returns c = same_trees c.loop-member.members.items c.self.inside.members.items
    (c.loop-member.invariant ∙ ap (map tree_shown)
    (take_all c.loop-member.member-index c.deref-member-items.result.now c.loop-member-test.false
    ∙ c.deref-member-items.ensures.value)) ∙ c.self.view_is
