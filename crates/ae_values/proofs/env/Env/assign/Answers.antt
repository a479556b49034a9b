use Rattle.std.proofs.Common.{◌≡◌, Some, slice_get, ap, sym, ◌∙◌, arith, subst, length, refl}
use Rattle.std.proofs.lemmas.Option.{slice_get_read, same_Some}
use Rattle.ae_values.specs.declared.env.Bound.TheVariants as bound
use Rattle.ae_values.specs.Binding.{IsNamedAt, reassigned}
use Rattle.ae_values.specs.Environments.{bound_under}
use Rattle.ae_values.proofs.BindLemmas.{named_within, changed_by, declared_at_found}
use Rattle.ae_values.proofs.ShapeLemmas.{shapes_changed, assigned_shape}
use Rattle.ae_values.proofs.env.Env.assign.Goals as goal

pub exchange-requires-clause-running : goal.exchange-requires-clause-running
exchange-requires-clause-running c = omega (arith, c.exchange-bound.ensures.place.0, c.in-Some.ensures.0)

pub exchange-requires-clause-within : goal.exchange-requires-clause-within
exchange-requires-clause-within c =
    let e = c.args.self.now in
    let named : IsNamedAt e.binds.items c.in-Some.at c.args.name =
    subst (λ bs. IsNamedAt bs c.in-Some.at c.args.name) c.as_slice.ensures.value c.in-Some.ensures.1 in
    omega (
      arith,
      c.exchange-bound.ensures.place.1,
      e.binds.ok.0,
      named_within e.binds.items c.in-Some.at c.args.name named,
    )

pub returns-in-Some-clause-bound : goal.returns-in-Some-clause-bound
returns-in-Some-clause-bound c =
    let e = c.args.self.now in
    let at = c.in-Some.at in
    let bind = c.index.result.now in
    let named : IsNamedAt e.binds.items at c.args.name =
    subst (λ bs. IsNamedAt bs at c.args.name) c.as_slice.ensures.value c.in-Some.ensures.1 in
    let found : slice_get e.binds.items at ≡ Some bind =
    slice_get_read e.binds.items (length e.binds.items) at bind refl
    (named_within e.binds.items at c.args.name named) c.index.ensures in
    λ q declared.
    let same : bind.declared ≡ q = same_Some bind.declared q
    (sym (declared_at_found e.binds.items e.base at c.args.name bind e.once c.in-Some.ensures.0 named found)
    ∙ declared) in
    changed_by c.args.name (bound_under e) (bound_under c.exchange-bound.new.self) (bound_under c.exchange.new.self)
    c.exchange-bound.result (bound.Cell 0) c.assigned.result (reassigned q c.args.value)
    (sym (c.exchange-bound.ensures.was c.args.name named))
    (c.exchange-bound.ensures.bound c.args.name named)
    (c.exchange.ensures.bound c.args.name (c.exchange-bound.ensures.named c.args.name named))
    (c.assigned.ensures ∙ ap (λ p. reassigned p c.args.value c.exchange-bound.result) same)

pub returns-in-Some-clause-shapes : goal.returns-in-Some-clause-shapes
returns-in-Some-clause-shapes c =
    let e = c.args.self.now in
    let at = c.in-Some.at in
    let bind = c.index.result.now in
    let named : IsNamedAt e.binds.items at c.args.name =
    subst (λ bs. IsNamedAt bs at c.args.name) c.as_slice.ensures.value c.in-Some.ensures.1 in
    shapes_changed e c.exchange.new.self c.args.name (reassigned bind.declared c.args.value)
    (c.exchange.ensures.stays.heads_stay ∙ c.exchange-bound.ensures.stays.heads_stay)
    (changed_by c.args.name (bound_under e) (bound_under c.exchange-bound.new.self) (bound_under c.exchange.new.self)
    c.exchange-bound.result (bound.Cell 0) c.assigned.result (reassigned bind.declared c.args.value)
    (sym (c.exchange-bound.ensures.was c.args.name named))
    (c.exchange-bound.ensures.bound c.args.name named)
    (c.exchange.ensures.bound c.args.name (c.exchange-bound.ensures.named c.args.name named))
    c.assigned.ensures)
    (assigned_shape bind.declared c.args.value)
