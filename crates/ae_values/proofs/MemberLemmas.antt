-- Facts on a group whose members change.
use Rattle.std.proofs.Common.{◌≡◌, ℕ, Option, None, Some, option_map, refl, ap, ◌∙◌}
use Rattle.std.proofs.lemmas.Option.{none-some, same_Some}
use Rattle.ae_rules.specs.Verdict.{given}
use Rattle.ae_semantics.specs.Values as meant
use Rattle.ae_semantics.specs.Values.{Store}
use Rattle.ae_semantics.specs.Places.{CellName, Here, members, group_of, name_of, with, with_store}
use Rattle.ae_values.specs.declared.env.Env.{Env}
use Rattle.ae_values.specs.declared.env.Bound.{Bound}
use Rattle.ae_values.specs.declared.env.Bound.TheVariants as bound
use Rattle.ae_values.specs.declared.env.Image.TheVariants as image
use Rattle.ae_values.specs.Binding.{members_bound}
use Rattle.ae_values.specs.Environments.{bound_under, state_in, group_bound, local_bound}
use Rattle.ae_values.proofs.BindLemmas.{groups_change}

-- the members that the meaning sees are those that are bound
pub members_seen : (cells : ℕ → CellName) (o : Option Bound)
    → members (given o None (group_bound cells)) ≡ given o None members_bound
members_seen cells None = refl
members_seen cells (Some (bound.Value form v)) = refl
members_seen cells (Some (bound.Moved form)) = refl
members_seen cells (Some (bound.Whole (image.Store st))) = refl
members_seen cells (Some (bound.Whole (image.Log ps))) = refl
members_seen cells (Some (bound.Other g)) = refl
members_seen cells (Some (bound.Cell n)) = refl
members_seen cells (Some (bound.Pieces ps)) = refl

-- where the meaning sees members the whole group is bound
whole_is_bound : (cells : ℕ → CellName) (o : Option Bound) (st : Store)
    → members (given o None (group_bound cells)) ≡ Some st → o ≡ Some (bound.Whole (image.Store st))
whole_is_bound cells None st seen = absurd (none-some st seen)
whole_is_bound cells (Some (bound.Value form v)) st seen = absurd (none-some st seen)
whole_is_bound cells (Some (bound.Moved form)) st seen = absurd (none-some st seen)
whole_is_bound cells (Some (bound.Whole (image.Store s))) st seen =
    ap (λ (x : Store). Some (bound.Whole (image.Store x))) (same_Some s st seen)
whole_is_bound cells (Some (bound.Whole (image.Log ps))) st seen = absurd (none-some st seen)
whole_is_bound cells (Some (bound.Other g)) st seen = absurd (none-some st seen)
whole_is_bound cells (Some (bound.Cell n)) st seen = absurd (none-some st seen)
whole_is_bound cells (Some (bound.Pieces ps)) st seen = absurd (none-some st seen)

-- where the group that is bound is changed into one with these members, so is that of the state
pub members_change : (cells : ℕ → CellName) (r : Option meant.Val) (e f : Env) (g : ℕ) (st st' : Store)
    (change : Bound → Bound) → members (group_of (state_in cells r e) g) ≡ Some st
    → change (bound.Whole (image.Store st)) ≡ bound.Whole (image.Store st')
    → bound_under f ≡ with (name_of (state_in cells r e) g) (option_map change (bound_under e (name_of (state_in cells r e) g)))
    (bound_under e)
    → state_in cells r f ≡ with_store g (Some (Here st')) (state_in cells r e)
members_change cells r e f g st st' change seen changed same =
    let x = name_of (state_in cells r e) g in
    let here : bound_under e x ≡ Some (bound.Whole (image.Store st)) = whole_is_bound cells (bound_under e x) st seen in
    groups_change cells r e f g (Some (bound.Whole (image.Store st')))
    (same ∙ ap (λ o. with x o (bound_under e)) (ap (option_map change) here ∙ ap Some changed))
    (ap (λ o. given o None local_bound) here)
    refl
