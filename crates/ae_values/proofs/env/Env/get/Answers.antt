use Rattle.std.proofs.Common.{◌≡◌, Some, slice_get, subst, length, refl}
use Rattle.std.proofs.lemmas.Option.{slice_get_read}
use Rattle.ae_values.specs.declared.env.Bind.{Bind}
use Rattle.ae_values.specs.Binding.{bound_measured, IsNamedAt}
use Rattle.ae_values.proofs.ValueLemmas.{passes_at_place}
use Rattle.ae_values.proofs.BindLemmas.{bound_at_found, named_within}
use Rattle.ae_values.proofs.env.Env.get.Goals as goal

pub returns-in-Some-clause-bound : goal.returns-in-Some-clause-bound
returns-in-Some-clause-bound c =
    let e = c.args.self.now in
    let at = c.in-Some.at in
    let bind = c.index.result.now in
    let named : IsNamedAt e.binds.items at c.args.name =
    subst (λ bs. IsNamedAt bs at c.args.name) c.as_slice.ensures.value c.in-Some.ensures.1 in
    let found : slice_get e.binds.items at ≡ Some bind =
    slice_get_read e.binds.items (length e.binds.items) at bind refl
    (named_within e.binds.items at c.args.name named) c.index.ensures in
    bound_at_found e.binds.items e.base at c.args.name bind e.once c.in-Some.ensures.0 named found

pub returns-in-Some-clause-measured : goal.returns-in-Some-clause-measured
returns-in-Some-clause-measured c =
    let e = c.args.self.now in
    let at = c.in-Some.at in
    let bind = c.index.result.now in
    let named : IsNamedAt e.binds.items at c.args.name =
    subst (λ bs. IsNamedAt bs at c.args.name) c.as_slice.ensures.value c.in-Some.ensures.1 in
    passes_at_place (λ (b : Bind). bound_measured b.bound) e.binds.items at bind e.measured
    (slice_get_read e.binds.items (length e.binds.items) at bind refl
    (named_within e.binds.items at c.args.name named) c.index.ensures)
