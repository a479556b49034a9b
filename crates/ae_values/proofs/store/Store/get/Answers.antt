use Rattle.std.proofs.Common.{ap, ◌∙◌, slice_get}
use Rattle.ae_values.proofs.ValueLemmas.{found_member_is_measured}
use Rattle.ae_values.proofs.store.Store.get.Goals as goal

pub returns-clause-measured : goal.returns-clause-measured
returns-clause-measured c = found_member_is_measured c.at.result c.self.inside.members.items c.args.number
    c.self.invariant (c.at.ensures ∙ ap (λ xs. slice_get xs c.args.number) c.as_slice.ensures.value)
