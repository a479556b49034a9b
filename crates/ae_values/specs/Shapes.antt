-- What the names of a call stand for, whatever they hold: a local with the form of its declaration, or a group, which may
-- stand under another name.
use Rattle.std.specs.Prelude.{ℕ, nat_eq, if◌then◌else◌, List, [], ◌∷◌, map, Option, None, Some}
use Rattle.ae_tree.specs.declared.form.Perm.{Perm}
use Rattle.ae_tree.specs.declared.form.Form.{Form}
use Rattle.ae_semantics.specs.Meaning.{with_perm}
use Rattle.ae_values.specs.declared.env.Bound.{Bound}
use Rattle.ae_values.specs.declared.env.Bound.TheVariants as bound
use Rattle.ae_values.specs.declared.env.Bind.{Bind}

-- a local that was declared with this form, or a group, with the other name under which its members stand, if any
pub data NameShape : Type 0 where
  OfLocal : Form → NameShape
  OfGroup : Option ℕ → NameShape

-- what is bound to a name that was declared with this permission; only the permission of a local changes
abbrev pub name_shape : Perm → Bound → NameShape
name_shape q (bound.Value form v) = OfLocal (with_perm q form)
name_shape q (bound.Moved form) = OfLocal (with_perm q form)
name_shape q (bound.Whole image) = OfGroup None
name_shape q (bound.Other g) = OfGroup (Some g)
name_shape q (bound.Cell n) = OfGroup None
name_shape q (bound.Pieces ps) = OfGroup None

-- names in order, each with its shape
abbrev pub shapes : List Bind → List (ℕ × NameShape)
shapes bs = map (λ (b : Bind). (b.name, name_shape b.declared b.bound)) bs

-- the shape of a name, by the first that is this name
abbrev pub shape_in : List (ℕ × NameShape) → ℕ → Option NameShape
shape_in [] x = None
shape_in (y ∷ ys) x = if nat_eq y.0 x then Some y.1 else shape_in ys x
