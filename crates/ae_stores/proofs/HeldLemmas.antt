-- Facts on the value that is taken out of a local.
use Rattle.std.proofs.Common.{◌≡◌, refl, sym, ap, ◌∙◌, Option, None, Some}
use Rattle.std.proofs.lemmas.Option.{same_Some, none-some}
use Rattle.ae_rules.specs.Verdict.{given}
use Rattle.ae_semantics.specs.Places as place
use Rattle.ae_values.specs.declared.env.Bound.{Bound}
use Rattle.ae_values.specs.declared.env.Bound.TheVariants as bound
use Rattle.ae_values.specs.declared.value.Val.{Val}
use Rattle.ae_values.specs.Binding.{value_held}
use Rattle.ae_values.specs.Environments.{local_bound}
use Rattle.ae_values.specs.Shown.{shown}

-- a value that is held is that of the local
pub held_is_shown : (o : Option Bound) (v : Val) (b : place.Bound) → given o None value_held ≡ Some v
    → given o None local_bound ≡ Some b → b.value ≡ shown v
held_is_shown None v b e is = absurd (none-some v e)
held_is_shown (Some (bound.Value form w)) v b e is =
    ap (λ (x : place.Bound). x.value) (sym (same_Some (record { form = form; value = shown w }) b is))
    ∙ ap shown (same_Some w v e)
held_is_shown (Some (bound.Moved form)) v b e is = absurd (none-some v e)
held_is_shown (Some (bound.Whole i)) v b e is = absurd (none-some v e)
held_is_shown (Some (bound.Other g)) v b e is = absurd (none-some v e)
held_is_shown (Some (bound.Cell n)) v b e is = absurd (none-some v e)
held_is_shown (Some (bound.Pieces ps)) v b e is = absurd (none-some v e)

-- where a value is held a local is seen
pub held_is_local : (o : Option Bound) (v : Val) → given o None value_held ≡ Some v
    → (b : place.Bound) × (given o None local_bound ≡ Some b)
held_is_local None v e = absurd (none-some v e)
held_is_local (Some (bound.Value form w)) v e = (record { form = form; value = shown w }, refl)
held_is_local (Some (bound.Moved form)) v e = absurd (none-some v e)
held_is_local (Some (bound.Whole i)) v e = absurd (none-some v e)
held_is_local (Some (bound.Other g)) v e = absurd (none-some v e)
held_is_local (Some (bound.Cell n)) v e = absurd (none-some v e)
held_is_local (Some (bound.Pieces ps)) v e = absurd (none-some v e)

-- where none is held no local is seen
pub none_held_no_local : (o : Option Bound) → given o None value_held ≡ None → given o None local_bound ≡ None
none_held_no_local None e = refl
none_held_no_local (Some (bound.Value form w)) e = absurd (none-some w (sym e))
none_held_no_local (Some (bound.Moved form)) e = refl
none_held_no_local (Some (bound.Whole i)) e = refl
none_held_no_local (Some (bound.Other g)) e = refl
none_held_no_local (Some (bound.Cell n)) e = refl
none_held_no_local (Some (bound.Pieces ps)) e = refl
