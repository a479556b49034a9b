-- What is bound under names.
use Rattle.std.specs.Prelude.{◌≡◌, ℕ, nat_eq, Bool, true, not, ◌&&◌, if◌then◌else◌, List, [], ◌∷◌, map}
use Rattle.std.specs.Prelude.{length, drop, ◌++◌, ◌≤◌}
use Rattle.std.specs.Prelude.{Option, None, Some, is_some, option_map, slice_get}
use Rattle.std.specs.List.{list_all}
use Rattle.ae_tree.specs.declared.form.Perm.{Perm}
use Rattle.ae_tree.specs.declared.form.Perm.TheVariants as perm
use Rattle.ae_tree.specs.declared.form.Form.{Form}
use Rattle.ae_tree.specs.declared.form.Form.TheVariants as f
use Rattle.ae_semantics.specs.Meaning.{with_perm}
use Rattle.ae_semantics.specs.Values as meant
use Rattle.ae_semantics.specs.Values.{Tree, Store, put_at}
use Rattle.ae_values.specs.declared.value.Val.{Val}
use Rattle.ae_values.specs.declared.env.Bound.{Bound}
use Rattle.ae_values.specs.declared.env.Bound.TheVariants as bound
use Rattle.ae_values.specs.declared.env.Bind.{Bind}
use Rattle.ae_values.specs.declared.env.Image.TheVariants as image
use Rattle.ae_values.specs.Shown.{value_shown, shown}

-- what is bound under a name, by the first bind that has it
abbrev pub bound_in : List Bind → ℕ → Option Bound
bound_in [] x = None
bound_in (b ∷ bs) x = if nat_eq b.name x then Some b.bound else bound_in bs x

-- no name is bound twice
abbrev pub bound_once : List Bind → Bool
bound_once [] = true
bound_once (b ∷ bs) = not (is_some (bound_in bs b.name)) && bound_once bs

-- where a value is bound, each height stored in it is that of its tree
abbrev pub bound_measured : Bound → Bool
bound_measured (bound.Value form v) = (value_shown v).measured
bound_measured (bound.Moved form) = true
bound_measured (bound.Whole image) = true
bound_measured (bound.Other g) = true
bound_measured (bound.Cell n) = true
bound_measured (bound.Pieces ps) = true

-- the values that are bound are well measured
abbrev pub binds_measured : List Bind → Bool
binds_measured bs = list_all (λ (b : Bind). bound_measured b.bound) bs

-- the bind at this place has this name
abbrev pub IsNamedAt : List Bind → ℕ → ℕ → Type 0
IsNamedAt bs i x = option_map (λ (b : Bind). b.name) (slice_get bs i) ≡ Some x

-- from this place on stand the names of one call, and none of them is bound twice
pub record IsCallFrom (bs : List Bind) (base : ℕ) : Type 0 where
  pub within : base ≤ length bs
  pub once : bound_once (drop base bs) ≡ true

-- ---- the names with the permissions with which they were declared

-- the names that are bound, in order, each with the permission with which it was declared
abbrev pub heads : List Bind → List (ℕ × Perm)
heads bs = map (λ (b : Bind). (b.name, b.declared)) bs

-- the permission with which a name was declared, by the first that is this name
abbrev pub declared_as : List (ℕ × Perm) → ℕ → Option Perm
declared_as [] x = None
declared_as (h ∷ hs) x = if nat_eq h.0 x then Some h.1 else declared_as hs x

-- the permission of a form; that of what is no object counts for nothing
abbrev pub form_perm : Form → Perm
form_perm f.Int = perm.Unique
form_perm f.Bool = perm.Unique
form_perm (f.Object q k) = q

-- ---- changes of what is bound under one name

-- the value of a local that has one
abbrev pub value_held : Bound → Option Val
value_held (bound.Value form v) = Some v
value_held (bound.Moved form) = None
value_held (bound.Whole image) = None
value_held (bound.Other g) = None
value_held (bound.Cell n) = None
value_held (bound.Pieces ps) = None

-- a local whose value was moved away keeps its form
abbrev pub emptied : Bound → Bound
emptied (bound.Value form v) = bound.Moved form
emptied (bound.Moved form) = bound.Moved form
emptied (bound.Whole image) = bound.Whole image
emptied (bound.Other g) = bound.Other g
emptied (bound.Cell n) = bound.Cell n
emptied (bound.Pieces ps) = bound.Pieces ps

-- a local that was declared with this permission gets a value, and has that permission again
abbrev pub reassigned : Perm → Val → Bound → Bound
reassigned q v (bound.Value form w) = bound.Value (with_perm q form) v
reassigned q v (bound.Moved form) = bound.Value (with_perm q form) v
reassigned q v (bound.Whole image) = bound.Whole image
reassigned q v (bound.Other g) = bound.Other g
reassigned q v (bound.Cell n) = bound.Cell n
reassigned q v (bound.Pieces ps) = bound.Pieces ps

-- a local that has a value has another permission
abbrev pub permitted : Perm → Bound → Bound
permitted q (bound.Value form v) = bound.Value (with_perm q form) v
permitted q (bound.Moved form) = bound.Moved form
permitted q (bound.Whole image) = bound.Whole image
permitted q (bound.Other g) = bound.Other g
permitted q (bound.Cell n) = bound.Cell n
permitted q (bound.Pieces ps) = bound.Pieces ps

-- the members of a group that is bound and is here
abbrev pub members_bound : Bound → Option Store
members_bound (bound.Value form v) = None
members_bound (bound.Moved form) = None
members_bound (bound.Whole (image.Store st)) = Some st
members_bound (bound.Whole (image.Log ps)) = None
members_bound (bound.Other g) = None
members_bound (bound.Cell n) = None
members_bound (bound.Pieces ps) = None

-- the members of a group that is here are changed so; all else stays
abbrev pub with_members : (Store → Store) → Bound → Bound
with_members change (bound.Value form v) = bound.Value form v
with_members change (bound.Moved form) = bound.Moved form
with_members change (bound.Whole (image.Store st)) = bound.Whole (image.Store (change st))
with_members change (bound.Whole (image.Log ps)) = bound.Whole (image.Log ps)
with_members change (bound.Other g) = bound.Other g
with_members change (bound.Cell n) = bound.Cell n
with_members change (bound.Pieces ps) = bound.Pieces ps

-- a group that is here gets one more member
abbrev pub with_joined : Tree → Bound → Bound
with_joined t = with_members (λ st. st ++ (t ∷ []))

-- the value of a local shows what this change makes of it afterwards; what is no local with a value stays
abbrev pub IsChanged : (meant.Val → meant.Val) → Bound → Bound → Type 0
IsChanged change (bound.Value form v) b = (w : Val) × (shown w ≡ change (shown v)) × (b ≡ bound.Value form w)
IsChanged change (bound.Moved form) b = b ≡ bound.Moved form
IsChanged change (bound.Whole image) b = b ≡ bound.Whole image
IsChanged change (bound.Other g) b = b ≡ bound.Other g
IsChanged change (bound.Cell n) b = b ≡ bound.Cell n
IsChanged change (bound.Pieces ps) b = b ≡ bound.Pieces ps

-- the place in a local to which these fields lead has this value afterwards; what is no local with a value stays
abbrev pub IsWritten : List ℕ → meant.Val → Bound → Bound → Type 0
IsWritten fields new = IsChanged (put_at fields new)
