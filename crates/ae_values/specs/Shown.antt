-- The values and trees that the code holds, as plain data, and whether the heights that they store are right.
use Rattle.std.specs.Prelude.{◌≡◌, ℕ, ◌+◌, nat_eq, ℤ, Bool, true, ◌&&◌, List, [], ◌∷◌, map}
use Rattle.std.specs.List.{list_all}
use Rattle.std.specs.declared.boxed.Box.{Box}
use Rattle.std.specs.declared.vec.Vec.{Vec}
use Rattle.std.specs.declared.alloc.Global.{Global}
use Rattle.std.proofs.Common.{refl, sym, ◌∙◌, ap}
use Rattle.ae_semantics.specs.Values as meant
use Rattle.ae_semantics.specs.Values.{OfInt, OfBool, Null, Owned, Member, Tree, Array, Values, NoValue, AndValue}
use Rattle.ae_semantics.specs.Values.{values, highest, tree_height}
use Rattle.ae_values.specs.declared.value.Object.{Object, fold-Object, fold-roll-Object}
use Rattle.ae_values.specs.declared.value.Object.TheVariants as o
use Rattle.ae_values.specs.declared.value.Object.TheOpen as oo
use Rattle.ae_values.specs.declared.value.Val.{Val, fold-Val, fold-roll-Val}
use Rattle.ae_values.specs.declared.value.Val.TheVariants as v

-- a value, and whether each height stored in it is that of its tree
pub record ShownValue : Type 0 where
  pub value : meant.Val
  pub measured : Bool

-- an object, and whether each height stored in it is that of its tree
pub record ShownTree : Type 0 where
  pub tree : Tree
  pub measured : Bool

-- the fields of an object, as values
abbrev values_of_fields : List ShownValue → Values
values_of_fields xs = values (map (λ (x : ShownValue). x.value) xs)

-- An object with fields is measured where its height is that of its tree, and its fields are measured.
abbrev pub record_shown : ℕ → List ShownValue → ℕ → ShownTree
record_shown c xs h = record {
  tree = meant.Object c (values_of_fields xs);
  measured = nat_eq h (tree_height (meant.Object c (values_of_fields xs))) && list_all (λ
      (x : ShownValue). x.measured) xs;
}

-- an array has no height to store
abbrev object_layer : oo.Object-F ShownTree ShownValue → ShownTree
object_layer (oo.Rec c xs h) = record_shown c xs.items h
object_layer (oo.Ints ns) = record { tree = Array ns.items; measured = true }

-- A value is measured where its object is, if it has one.
abbrev value_layer : oo.Val-F ShownTree ShownValue → ShownValue
value_layer (oo.Int n) = record { value = OfInt n; measured = true }
value_layer (oo.Bool b) = record { value = OfBool b; measured = true }
value_layer oo.Null = record { value = Null; measured = true }
value_layer (oo.Object x) = record { value = Owned x.value.tree; measured = x.value.measured }
value_layer (oo.Ref n) = record { value = Member n; measured = true }

-- what a value is, and whether it is measured
unfoldable pub value_shown : Val → ShownValue
value_shown = fold-Val ShownTree ShownValue object_layer value_layer

-- what an object is, and whether it is measured
unfoldable pub tree_shown : Object → ShownTree
tree_shown = fold-Object ShownTree ShownValue object_layer value_layer

-- the value that the code's value is
abbrev pub shown : Val → meant.Val
shown x = (value_shown x).value

-- the tree that the code's object is
abbrev pub shown_tree : Object → Tree
shown_tree x = (tree_shown x).tree

-- the values that fields are, in order
abbrev pub fields_shown : List Val → Values
fields_shown [] = NoValue
fields_shown (x ∷ xs) = AndValue (shown x) (fields_shown xs)

-- each height stored in these fields is that of its tree
abbrev pub all_measured : List Val → Bool
all_measured xs = list_all (λ x. (value_shown x).measured) xs

-- each height stored in the value is that of its tree
abbrev pub IsMeasured : Val → Type 0
IsMeasured x = (value_shown x).measured ≡ true

-- each height stored in the object is that of its tree
abbrev pub IsMeasuredTree : Object → Type 0
IsMeasuredTree x = (tree_shown x).measured ≡ true

pub shown-Int : (n : ℤ) → value_shown (v.Int n) ≡ record { value = OfInt n; measured = true }
unfolding value_shown tree_shown
shown-Int n = ap value_shown (sym (v.rolls-Int n))
    ∙ fold-roll-Val ShownTree ShownValue object_layer value_layer (oo.Int n)

pub shown-Bool : (b : Bool) → value_shown (v.Bool b) ≡ record { value = OfBool b; measured = true }
unfolding value_shown tree_shown
shown-Bool b = ap value_shown (sym (v.rolls-Bool b))
    ∙ fold-roll-Val ShownTree ShownValue object_layer value_layer (oo.Bool b)

pub shown-Null : value_shown v.Null ≡ record { value = Null; measured = true }
unfolding value_shown tree_shown
shown-Null = ap value_shown (sym v.rolls-Null)
    ∙ fold-roll-Val ShownTree ShownValue object_layer value_layer oo.Null

pub shown-Object : (x : Box Object Global)
    → value_shown (v.Object x) ≡ record { value = Owned (shown_tree x.value); measured = (tree_shown x.value).measured }
unfolding value_shown tree_shown
shown-Object x = ap value_shown (sym (v.rolls-Object x))
    ∙ fold-roll-Val ShownTree ShownValue object_layer value_layer (oo.Object x)

pub shown-Ref : (n : ℕ) → value_shown (v.Ref n) ≡ record { value = Member n; measured = true }
unfolding value_shown tree_shown
shown-Ref n = ap value_shown (sym (v.rolls-Ref n))
    ∙ fold-roll-Val ShownTree ShownValue object_layer value_layer (oo.Ref n)

values_of_folds : (xs : List Val) → values_of_fields (map value_shown xs) ≡ fields_shown xs
values_of_folds [] = refl
values_of_folds (x ∷ xs) = ap (AndValue (shown x)) (values_of_folds xs)

all_of_folds : (xs : List Val) → list_all (λ (x : ShownValue). x.measured) (map value_shown xs) ≡ all_measured xs
all_of_folds [] = refl
all_of_folds (x ∷ xs) = ap (λ b. (value_shown x).measured && b) (all_of_folds xs)

-- an object with fields is known by what its fields show
pub record_by_fields : (c : ℕ) (xs : Vec Val Global) (h : ℕ)
    → tree_shown (o.Rec c xs h) ≡ record_shown c (map value_shown xs.items) h
unfolding value_shown tree_shown
record_by_fields c xs h = ap tree_shown (sym (o.rolls-Rec c xs h))
    ∙ fold-roll-Object ShownTree ShownValue object_layer value_layer (oo.Rec c xs h)

pub shown-Rec : (c : ℕ) (xs : Vec Val Global) (h : ℕ) → tree_shown (o.Rec c xs h) ≡ record {
  tree = meant.Object c (fields_shown xs.items);
  measured = nat_eq h (highest (fields_shown xs.items) + 1) && all_measured xs.items;
}
shown-Rec c xs h = record_by_fields c xs h
    ∙ ap (λ (fs : Values). record {
      tree = meant.Object c fs;
      measured = nat_eq h (highest fs + 1)
          && list_all (λ (x : ShownValue). x.measured) (map value_shown xs.items);
    }) (values_of_folds xs.items)
    ∙ ap (λ (all : Bool). record {
      tree = meant.Object c (fields_shown xs.items);
      measured = nat_eq h (highest (fields_shown xs.items) + 1) && all;
    }) (all_of_folds xs.items)

pub shown-Ints : (ns : Vec ℤ Global) → tree_shown (o.Ints ns) ≡ record { tree = Array ns.items; measured = true }
unfolding value_shown tree_shown
shown-Ints ns = ap tree_shown (sym (o.rolls-Ints ns))
    ∙ fold-roll-Object ShownTree ShownValue object_layer value_layer (oo.Ints ns)

-- one equation for each form of a value and of an object
pub ruleset shows = (shown-Int, shown-Bool, shown-Null, shown-Object, shown-Ref, shown-Rec, shown-Ints)
