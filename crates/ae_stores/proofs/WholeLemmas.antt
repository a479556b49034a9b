-- Facts on whole values: of a local, of a member, and as an environment has them.
use Rattle.std.proofs.Common.{◌≡◌, refl, ℕ, Option, None, Some, option_map, slice_get}
use Rattle.std.proofs.lemmas.Option.{same_Some, none-some}
use Rattle.ae_rules.specs.Verdict.{given}
use Rattle.ae_tree.specs.declared.form.Form.{Form}
use Rattle.ae_semantics.specs.Values as meant
use Rattle.ae_semantics.specs.Values.{Owned, Tree, Store}
use Rattle.ae_semantics.specs.Places as place
use Rattle.ae_semantics.specs.Places.{CellName, State, InLocal, InGroup, members, group_of, other_name}
use Rattle.ae_values.specs.declared.env.Env.{Env}
use Rattle.ae_values.specs.declared.env.Bound.{Bound}
use Rattle.ae_values.specs.declared.env.Bound.TheVariants as bound
use Rattle.ae_values.specs.declared.value.Val.{Val}
use Rattle.ae_values.specs.Shown.{shown}
use Rattle.ae_values.specs.Environments.{bound_under, state_in, local_bound}
use Rattle.ae_stores.specs.Stand.{whole_at}
use Rattle.ae_stores.proofs.OutcomeLemmas.{given_first}

-- what is made of an option is made of what it holds
pub mapped_first : {A B : Type 0} (o : Option A) (f : A → B) (y : B) → option_map f o ≡ Some y
    → (x : A) × (o ≡ Some x) × (f x ≡ y)
mapped_first None f y e = absurd (none-some y e)
mapped_first (Some x) f y e = (x, refl, same_Some (f x) y e)

-- the whole value of a local is its value
pub whole_local : (s : State) (x : ℕ) (whole : meant.Val) → whole_at s (InLocal x) ≡ Some whole
    → (b : place.Bound) × (s.locals x ≡ Some b) × (b.value ≡ whole)
whole_local s x whole e = mapped_first (s.locals x) (λ (b : place.Bound). b.value) whole e

-- the whole value of a member is the member
pub whole_member : (s : State) (g n : ℕ) (whole : meant.Val) → whole_at s (InGroup g n) ≡ Some whole
    → (st : Store) × (members (group_of s g) ≡ Some st) × (t : Tree) × (slice_get st n ≡ Some t) × (Owned t ≡ whole)
whole_member s g n whole e =
    let a = given_first (members (group_of s g)) (λ st. option_map Owned (slice_get st n)) whole e in
    let b = mapped_first (slice_get a.0 n) Owned whole a.2 in
    (a.0, a.1, b.0, b.1, b.2)

-- a local that has a value is bound to it
value_is_bound : (o : Option Bound) (whole : meant.Val)
    → option_map (λ (b : place.Bound). b.value) (given o None local_bound) ≡ Some whole
    → (form : Form) × (v : Val) × (o ≡ Some (bound.Value form v)) × (shown v ≡ whole)
value_is_bound None whole e = absurd (none-some whole e)
value_is_bound (Some (bound.Value form v)) whole e = (form, v, refl, same_Some (shown v) whole e)
value_is_bound (Some (bound.Moved form)) whole e = absurd (none-some whole e)
value_is_bound (Some (bound.Whole i)) whole e = absurd (none-some whole e)
value_is_bound (Some (bound.Other g)) whole e = absurd (none-some whole e)
value_is_bound (Some (bound.Cell n)) whole e = absurd (none-some whole e)
value_is_bound (Some (bound.Pieces ps)) whole e = absurd (none-some whole e)

-- the local of which this is the whole value is bound to it
pub whole_bound : (cells : ℕ → CellName) (r : Option meant.Val) (env : Env) (x : ℕ) (whole : meant.Val)
    → whole_at (state_in cells r env) (InLocal x) ≡ Some whole
    → (form : Form) × (v : Val) × (bound_under env x ≡ Some (bound.Value form v)) × (shown v ≡ whole)
whole_bound cells r env x whole e = value_is_bound (bound_under env x) whole e
