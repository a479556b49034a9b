use Rattle.std.proofs.Common.{◌≡◌, Some, None, slice_get, subst, sym, length, refl, drop}
use Rattle.std.proofs.lemmas.Option.{slice_get_read}
use Rattle.ae_values.specs.Binding.{IsNamedAt, bound_in}
use Rattle.ae_values.specs.Environments.{running_binds}
use Rattle.ae_values.proofs.BindLemmas.{declared_at_found, none_declared, named_within}
use Rattle.ae_values.proofs.env.Env.declared.Goals as goal

pub returns-in-Some : goal.returns-in-Some
returns-in-Some c =
    let e = c.args.self.now in
    let at = c.in-Some.at in
    let bind = c.index.result.now in
    let named : IsNamedAt e.binds.items at c.args.name =
    subst (λ bs. IsNamedAt bs at c.args.name) c.as_slice.ensures.value c.in-Some.ensures.1 in
    let found : slice_get e.binds.items at ≡ Some bind =
    slice_get_read e.binds.items (length e.binds.items) at bind refl
    (named_within e.binds.items at c.args.name named) c.index.ensures in
    sym (declared_at_found e.binds.items e.base at c.args.name bind e.once c.in-Some.ensures.0 named found)

pub returns-in-None : goal.returns-in-None
returns-in-None c =
    let e = c.args.self.now in
    sym (none_declared (running_binds e) c.args.name
    (subst (λ bs. bound_in (drop e.base bs) c.args.name ≡ None) c.as_slice.ensures.value c.in-None.ensures))
