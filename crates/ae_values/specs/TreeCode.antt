-- How a tree is told from others: by a tree of numbers, from which it is read back.
use Rattle.std.specs.Prelude.{◌≡◌, zero, suc, ℤ, Bool, true, false, List, [], ◌∷◌}
use Rattle.std.proofs.Common.{refl, ap, ◌∙◌, pos, negsuc}
use Rattle.std.specs.Coded.{Coded, code_by}
use base.Stored.{Gv, gnil, gnum, gcons}
use denote.Struct.Codes.{itself}
use Rattle.ae_semantics.specs.Values.{Val, OfInt, OfBool, Null, Owned, Member, Tree, Object, Array}
use Rattle.ae_semantics.specs.Values.{Values, NoValue, AndValue}

abbrev code_of_integer : ℤ → Gv
code_of_integer (pos n) = gcons gnil (gnum n)
code_of_integer (negsuc n) = gnum n

abbrev integer_of : Gv → ℤ
integer_of (gcons g (gnum n)) = pos n
integer_of (gnum n) = negsuc n
integer_of g = pos 0

abbrev code_of_integers : List ℤ → Gv
code_of_integers [] = gnil
code_of_integers (n ∷ ns) = gcons (code_of_integer n) (code_of_integers ns)

abbrev integers_of : Gv → List ℤ
integers_of (gcons g gs) = integer_of g ∷ integers_of gs
integers_of g = []

abbrev code_of_truth : Bool → Gv
code_of_truth true = gnil
code_of_truth false = gnum 0

abbrev coded_truth : Gv → Bool
coded_truth gnil = true
coded_truth g = false

abbrev mutual
  code_of_value : Val → Gv
  code_of_value (OfInt n) = gcons (gnum 0) (code_of_integer n)
  code_of_value (OfBool b) = gcons (gnum 1) (code_of_truth b)
  code_of_value (Owned t) = gcons (gnum 2) (code_of_tree t)
  code_of_value (Member n) = gnum n
  code_of_value Null = gnil

  -- the tree of numbers by which a tree is told
  pub code_of_tree : Tree → Gv
  code_of_tree (Object c xs) = gcons (gnum c) (code_of_values xs)
  code_of_tree (Array ns) = gcons gnil (code_of_integers ns)

  code_of_values : Values → Gv
  code_of_values NoValue = gnil
  code_of_values (AndValue x xs) = gcons (code_of_value x) (code_of_values xs)

abbrev mutual
  value_of : Gv → Val
  value_of (gcons (gnum zero) g) = OfInt (integer_of g)
  value_of (gcons (gnum (suc zero)) g) = OfBool (coded_truth g)
  value_of (gcons (gnum (suc (suc n))) g) = Owned (tree_of g)
  value_of (gnum n) = Member n
  value_of g = Null

  -- the tree that is read back
  pub tree_of : Gv → Tree
  tree_of (gcons (gnum c) g) = Object c (values_of g)
  tree_of (gcons gnil g) = Array (integers_of g)
  tree_of g = Array []

  values_of : Gv → Values
  values_of (gcons g gs) = AndValue (value_of g) (values_of gs)
  values_of g = NoValue

integer_is_back : (n : ℤ) → integer_of (code_of_integer n) ≡ n
integer_is_back (pos n) = refl
integer_is_back (negsuc n) = refl

integers_are_back : (ns : List ℤ) → integers_of (code_of_integers ns) ≡ ns
integers_are_back [] = refl
integers_are_back (n ∷ ns) = ap (λ m. m ∷ integers_of (code_of_integers ns)) (integer_is_back n)
    ∙ ap (λ ms. n ∷ ms) (integers_are_back ns)

truth_is_back : (b : Bool) → coded_truth (code_of_truth b) ≡ b
truth_is_back true = refl
truth_is_back false = refl

mutual
  value_is_back : (x : Val) → value_of (code_of_value x) ≡ x
  value_is_back (OfInt n) = ap OfInt (integer_is_back n)
  value_is_back (OfBool b) = ap OfBool (truth_is_back b)
  value_is_back Null = refl
  value_is_back (Owned t) = ap Owned (tree_is_back t)
  value_is_back (Member n) = refl

  -- the tree is read back
  pub tree_is_back : (t : Tree) → tree_of (code_of_tree t) ≡ t
  tree_is_back (Object c xs) = ap (Object c) (values_are_back xs)
  tree_is_back (Array ns) = ap Array (integers_are_back ns)

  values_are_back : (xs : Values) → values_of (code_of_values xs) ≡ xs
  values_are_back NoValue = refl
  values_are_back (AndValue x xs) = ap (λ y. AndValue y (values_of (code_of_values xs))) (value_is_back x)
      ∙ ap (AndValue x) (values_are_back xs)

-- a tree is stored by the tree of numbers that tells it
abbrev pub tree_code : Coded Tree
tree_code = code_by Gv itself code_of_tree tree_of tree_is_back
