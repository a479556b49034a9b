use Rattle.std.proofs.Common.{◌≡◌, ap, arith}
use Rattle.ae_semantics.specs.Values.{height, put_at, Null}
use Rattle.ae_values.specs.Shown.{shown, shown-Null, ShownValue}
use Rattle.ae_values.specs.declared.value.Val.TheVariants as v
use Rattle.ae_values.proofs.PutLemmas.{lower_with_null}
use Rattle.ae_values.proofs.value.Val.take.Goals as goal

pub returns-clause-measured : goal.returns-clause-measured
returns-clause-measured c =
    let is = c.args.fields.now in
    let old = shown c.args.self.now in
    let null : height (put_at is (shown v.Null) old) ≡ height (put_at is Null old) =
    ap (λ (y : ShownValue). height (put_at is y.value old)) shown-Null in
    c.replace.ensures.measured c.requires (ap (λ (y : ShownValue). y.measured) shown-Null)
    (omega (arith, null, lower_with_null is old, c.height_is_stored.ensures c.requires))
