-- What is bound in a call that is entered.
use Rattle.std.specs.Prelude.{ℕ, nat_eq, Bool, true, false, if◌then◌else◌, List, [], ◌∷◌, Option, Some}
use Rattle.ae_values.specs.declared.env.Bound.{Bound}
use Rattle.ae_values.specs.declared.env.Bound.TheVariants as bound
use Rattle.ae_values.specs.declared.env.Image.TheVariants as image
use Rattle.ae_values.specs.Shapes.{NameShape, OfLocal}
use Rattle.ae_frames.specs.declared.given.Arg.{Arg}
use Rattle.ae_frames.specs.declared.given.Parameter.{Parameter}

-- What is bound where each parameter is bound to its argument's value, and all else stays.
abbrev pub bound_by : List Parameter → List Arg → (ℕ → Option Bound) → ℕ → Option Bound
bound_by [] xs rest y = rest y
bound_by (t ∷ ts) [] rest y = rest y
bound_by (t ∷ ts) (x ∷ xs) rest y = if nat_eq t.name y then Some (bound.Value t.slot.form x.value)
    else bound_by ts xs rest y

-- the names that parameters with their arguments have
abbrev pub shapes_by : List Parameter → List Arg → List (ℕ × NameShape)
shapes_by [] xs = []
shapes_by (t ∷ ts) [] = []
shapes_by (t ∷ ts) (x ∷ xs) = (t.name, OfLocal t.slot.form) ∷ shapes_by ts xs

-- a group that can be lent: its members are here, its cell has them, or they stand under another name
abbrev pub is_lendable : Bound → Bool
is_lendable (bound.Value form v) = false
is_lendable (bound.Moved form) = false
is_lendable (bound.Whole (image.Store st)) = true
is_lendable (bound.Whole (image.Log ps)) = false
is_lendable (bound.Other g) = true
is_lendable (bound.Cell n) = true
is_lendable (bound.Pieces ps) = false

-- a group that is here, or whose cell has it
abbrev pub is_itself : Bound → Bool
is_itself (bound.Value form v) = false
is_itself (bound.Moved form) = false
is_itself (bound.Whole (image.Store st)) = true
is_itself (bound.Whole (image.Log ps)) = false
is_itself (bound.Other g) = false
is_itself (bound.Cell n) = true
is_itself (bound.Pieces ps) = false

-- a group under its own name
abbrev pub has_group_shape : Bound → Bool
has_group_shape (bound.Value form v) = false
has_group_shape (bound.Moved form) = false
has_group_shape (bound.Whole image) = true
has_group_shape (bound.Other g) = false
has_group_shape (bound.Cell n) = true
has_group_shape (bound.Pieces ps) = true
