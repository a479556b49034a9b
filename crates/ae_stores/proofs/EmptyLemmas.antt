-- Facts on a local whose value is taken out: the state is the one in which it has no value.
use Rattle.std.proofs.Common.{◌≡◌, refl, ap, sym, ◌∙◌, ℕ, nat_eq, Bool, true, false, if◌then◌else◌, Option, None, Some}
use Rattle.std.proofs.Common.{option_map, List}
use Rattle.std.proofs.lemmas.Bool.{eqb-true}
use Rattle.ae_tree.specs.declared.form.Form.{Form}
use Rattle.ae_rules.specs.Verdict.{given}
use Rattle.ae_semantics.specs.Values as meant
use Rattle.ae_semantics.specs.Values.{put_at}
use Rattle.ae_semantics.specs.Places as place
use Rattle.ae_semantics.specs.Places.{CellName, Group, State, with, with_bound}
use Rattle.ae_values.specs.declared.env.Env.{Env}
use Rattle.ae_values.specs.declared.env.Bound.{Bound}
use Rattle.ae_values.specs.declared.env.Bound.TheVariants as bound
use Rattle.ae_values.specs.Binding.{emptied, IsWritten}
use Rattle.ae_values.specs.Environments.{bound_under, state_in, local_bound, group_bound, locals_in, groups_in}
use Rattle.ae_values.specs.Inside.{value_inside}
use Rattle.ae_values.specs.declared.value.Val.TheVariants as value
use Rattle.ae_values.specs.Shown.{shown, shown-Null, ShownValue}
use Rattle.ae_stores.specs.Stand.{nulled, nulled_in}
use Rattle.ae_stores.proofs.from_text.Basics.{functions_agree}
use Rattle.ae_stores.proofs.from_values.BindLemmas.{with_itself}

-- what is emptied is no local with a value
no_local_left : (o : Option Bound) → given (option_map emptied o) None local_bound ≡ None
no_local_left None = refl
no_local_left (Some (bound.Value form v)) = refl
no_local_left (Some (bound.Moved form)) = refl
no_local_left (Some (bound.Whole i)) = refl
no_local_left (Some (bound.Other g)) = refl
no_local_left (Some (bound.Cell n)) = refl
no_local_left (Some (bound.Pieces ps)) = refl

-- it is the same group as before
same_group_left : (cells : ℕ → CellName) (o : Option Bound)
    → given (option_map emptied o) None (group_bound cells) ≡ given o None (group_bound cells)
same_group_left cells None = refl
same_group_left cells (Some (bound.Value form v)) = refl
same_group_left cells (Some (bound.Moved form)) = refl
same_group_left cells (Some (bound.Whole i)) = refl
same_group_left cells (Some (bound.Other g)) = refl
same_group_left cells (Some (bound.Cell n)) = refl
same_group_left cells (Some (bound.Pieces ps)) = refl

-- the other locals stay
locals_left : (x : ℕ) (b : ℕ → Option Bound)
    → locals_in (with x (option_map emptied (b x)) b) ≡ with x None (locals_in b)
locals_left x b = functions_agree (locals_in (with x (option_map emptied (b x)) b)) (with x None (locals_in b))
    (λ y. by_test y (nat_eq x y))
  where
    by_test : (y : ℕ) (t : Bool) → given (if t then option_map emptied (b x) else b y) None local_bound
        ≡ (if t then None else locals_in b y)
    by_test y true = no_local_left (b x)
    by_test y false = refl

-- all groups stay
groups_left : (cells : ℕ → CellName) (x : ℕ) (b : ℕ → Option Bound)
    → groups_in cells (with x (option_map emptied (b x)) b) ≡ groups_in cells b
groups_left cells x b = functions_agree (groups_in cells (with x (option_map emptied (b x)) b)) (groups_in cells b)
    (λ y. by_test y (nat_eq x y) refl)
  where
    by_test : (y : ℕ) (t : Bool) → nat_eq x y ≡ t
        → given (if t then option_map emptied (b x) else b y) None (group_bound cells) ≡ groups_in cells b y
    by_test y true e = same_group_left cells (b x) ∙ ap (groups_in cells b) (eqb-true x y e)
    by_test y false e = refl

-- the state of these locals and groups
abbrev state_of : (ℕ → Option place.Bound) → (ℕ → Option Group) → Option meant.Val → State
state_of l g r = record { locals = l; groups = g; result = r }

-- where what is bound under one name is emptied, the local has no value, and all else stays
pub emptied_is_seen : (cells : ℕ → CellName) (r : Option meant.Val) (e f : Env) (x : ℕ)
    → bound_under f ≡ with x (option_map emptied (bound_under e x)) (bound_under e)
    → state_in cells r f ≡ with_bound x None (state_in cells r e)
emptied_is_seen cells r e f x same =
    let b = bound_under e in
    let new = with x (option_map emptied (b x)) b in
    ap (λ (u : ℕ → Option Bound). state_of (locals_in u) (groups_in cells u) r) same
    ∙ ap (λ l. state_of l (groups_in cells new) r) (locals_left x b)
    ∙ ap (λ g. state_of (with x None (locals_in b)) g r) (groups_left cells x b)

-- ---- null at a place in a local

-- what is bound afterwards is seen as a local with null at the place, and as the same group
abbrev pub IsNulled : (ℕ → CellName) → List ℕ → Option Bound → Option Bound → Type 0
IsNulled cells fields old new = (given new None local_bound ≡ option_map (nulled fields) (given old None local_bound))
    × (given new None (group_bound cells) ≡ given old None (group_bound cells))

-- a local that was written so is nulled
pub written_is_nulled : (cells : ℕ → CellName) (fields : List ℕ) (a b : Bound) → IsWritten fields meant.Null a b
    → IsNulled cells fields (Some a) (Some b)
written_is_nulled cells fields (bound.Value form v) b h = (
  ap (λ (k : Bound). local_bound k) h.2
      ∙ ap (λ (w : meant.Val). Some (made form w)) h.1,
  ap (λ (k : Bound). group_bound cells k) h.2,
)
  where
    made : Form → meant.Val → place.Bound
    made form w = record { form = form; value = w }
written_is_nulled cells fields (bound.Moved form) b h =
    (ap (λ (k : Bound). local_bound k) h, ap (λ (k : Bound). group_bound cells k) h)
written_is_nulled cells fields (bound.Whole i) b h =
    (ap (λ (k : Bound). local_bound k) h, ap (λ (k : Bound). group_bound cells k) h)
written_is_nulled cells fields (bound.Other g) b h =
    (ap (λ (k : Bound). local_bound k) h, ap (λ (k : Bound). group_bound cells k) h)
written_is_nulled cells fields (bound.Cell n) b h =
    (ap (λ (k : Bound). local_bound k) h, ap (λ (k : Bound). group_bound cells k) h)
written_is_nulled cells fields (bound.Pieces ps) b h =
    (ap (λ (k : Bound). local_bound k) h, ap (λ (k : Bound). group_bound cells k) h)

-- where what is bound under one name is nulled, null stands at the place in the local, and all else stays
pub nulled_is_seen : (cells : ℕ → CellName) (r : Option meant.Val) (e f : Env) (x : ℕ) (fields : List ℕ) (o : Option Bound)
    → bound_under f ≡ with x o (bound_under e) → IsNulled cells fields (bound_under e x) o
    → state_in cells r f ≡ nulled_in x fields (state_in cells r e)
nulled_is_seen cells r e f x fields o same h =
    let b = bound_under e in
    ap (λ (u : ℕ → Option Bound). state_of (locals_in u) (groups_in cells u) r) same
    ∙ ap (λ l. state_of l (groups_in cells (with x o b)) r)
    (functions_agree (locals_in (with x o b)) (with x (option_map (nulled fields) (locals_in b x)) (locals_in b))
    (λ y. local_by_test y (nat_eq x y)))
    ∙ ap (λ g. state_of (with x (option_map (nulled fields) (locals_in b x)) (locals_in b)) g r)
    (functions_agree (groups_in cells (with x o b)) (groups_in cells b) (λ y. group_by_test y (nat_eq x y) refl))
  where
    local_by_test : (y : ℕ) (t : Bool) → given (if t then o else bound_under e y) None local_bound
        ≡ (if t then option_map (nulled fields) (locals_in (bound_under e) x) else locals_in (bound_under e) y)
    local_by_test y true = h.0
    local_by_test y false = refl

    group_by_test : (y : ℕ) (t : Bool) → nat_eq x y ≡ t
        → given (if t then o else bound_under e y) None (group_bound cells) ≡ groups_in cells (bound_under e) y
    group_by_test y true q = h.1 ∙ ap (groups_in cells (bound_under e)) (eqb-true x y q)
    group_by_test y false q = refl

-- where nothing is bound there is nothing to null
pub nothing_is_nulled : (cells : ℕ → CellName) (r : Option meant.Val) (e f : Env) (x : ℕ) (fields : List ℕ)
    → bound_under f ≡ bound_under e → bound_under e x ≡ None
    → state_in cells r f ≡ nulled_in x fields (state_in cells r e)
nothing_is_nulled cells r e f x fields same none = nulled_is_seen cells r e f x fields (bound_under e x)
    (same ∙ sym (with_itself x (bound_under e x) (bound_under e) refl)) (
      ap (λ (o : Option Bound). given o no_local local_bound) none
          ∙ sym (ap (λ (o : Option Bound). option_map (nulled fields) (given o no_local local_bound)) none),
      refl,
    )
  where
    no_local : Option place.Bound
    no_local = None

-- ---- what stands at a place in a local, or else null

-- the same of what is bound under a name
abbrev pub standing_in : List ℕ → Option Bound → meant.Val
standing_in fields o = given (given (option_map (λ (b : place.Bound). b.value) (given o None local_bound)) None
    (value_inside fields)) meant.Null (λ w. w)

pub stands_in_bound : (fields : List ℕ) (o : Option Bound) (b : Bound) → o ≡ Some b
    → standing_in fields (Some b) ≡ standing_in fields o
stands_in_bound fields o b e = ap (standing_in fields) (sym e)

-- null is shown as null
pub null_is_shown : shown value.Null ≡ meant.Null
null_is_shown = ap (λ (x : ShownValue). x.value) shown-Null

pub nothing_stands : (fields : List ℕ) (o : Option Bound) → o ≡ None → meant.Null ≡ standing_in fields o
nothing_stands fields o e = ap (standing_in fields) (sym e)
