-- Facts on values in a row, and on lists of which all pass a test.
use Rattle.std.proofs.Common.{◌≡◌, ℕ, zero, suc, ◌+◌, nat_eq, Bool, true, List, [], ◌∷◌, length, Option, None, Some}
use Rattle.std.proofs.Common.{slice_get, IfSome, Bor, refl, ap, sym, ◌∙◌, arith}
use Rattle.std.specs.Prelude.{option_map, slice_set, ◌&&◌, ◌++◌}
use Rattle.std.specs.List.{list_all}
use Rattle.std.specs.Option.{option_copied}
use Rattle.std.specs.declared.vec.Vec.{Vec}
use Rattle.std.specs.declared.alloc.Global.{Global}
use Rattle.std.proofs.lemmas.Bool.{and_from}
use Rattle.std.proofs.lemmas.List.Folds.{list_all-append}
use Rattle.std.proofs.lemmas.Option.{none-some, same_Some}
use Rattle.ae_values.proofs.from_text.Basics.{first_of_both, second_of_both}
use Rattle.ae_semantics.specs.Values.{value_count, value_at, highest}
use Rattle.ae_values.specs.declared.value.Val.{Val}
use Rattle.ae_values.specs.declared.value.Object.TheVariants as o
use Rattle.ae_values.specs.declared.value.Object.{Object}
use Rattle.ae_values.specs.Shown.{shown_tree}
use Rattle.ae_values.specs.Shown.{shown, fields_shown, all_measured, value_shown, ShownTree, shown-Rec, IsMeasured}
use Rattle.ae_values.specs.Shown.{IsMeasuredTree, tree_shown, record_shown, record_by_fields}
use Rattle.std.specs.Prelude.{map}

-- as many values are shown as there are
pub as_many_values : (xs : List Val) → value_count (fields_shown xs) ≡ length xs
as_many_values [] = refl
as_many_values (x ∷ xs) = omega (arith, as_many_values xs)

-- the value with a number is the one at that place
pub value_at_place : (xs : List Val) (n : ℕ) → value_at (fields_shown xs) n ≡ option_map shown (slice_get xs n)
value_at_place [] n = refl
value_at_place (x ∷ xs) zero = refl
value_at_place (x ∷ xs) (suc n) = value_at_place xs n

-- where all of a list pass a test the one at a place does
pub passes_at_place : {A : Type 0} (test : A → Bool) (xs : List A) (n : ℕ) (x : A) → list_all test xs ≡ true
    → slice_get xs n ≡ Some x → test x ≡ true
passes_at_place test [] n x all at = absurd (none-some x at)
passes_at_place test (y ∷ ys) zero x all at = ap test (sym (same_Some y x at))
    ∙ first_of_both (test y) (list_all test ys) all
passes_at_place test (y ∷ ys) (suc n) x all at = passes_at_place test ys n x
    (second_of_both (test y) (list_all test ys) all) at

-- where all of a list and a new one pass a test, they do with the new one in place of another
pub pass_with_new : {A : Type 0} (test : A → Bool) (xs : List A) (i : ℕ) (y : A) → list_all test xs ≡ true
    → test y ≡ true → list_all test (slice_set xs i y) ≡ true
pass_with_new test [] i y all new = refl
pass_with_new test (x ∷ xs) zero y all new = and_from (test y) (list_all test xs) new
    (second_of_both (test x) (list_all test xs) all)
pass_with_new test (x ∷ xs) (suc i) y all new = and_from (test x) (list_all test (slice_set xs i y))
    (first_of_both (test x) (list_all test xs) all)
    (pass_with_new test xs i y (second_of_both (test x) (list_all test xs) all) new)

-- where all of a list and a new one pass a test, they do with the new one behind them
pub pass_besides : {A : Type 0} (test : A → Bool) (xs : List A) (y : A) → list_all test xs ≡ true → test y ≡ true
    → list_all test (xs ++ y ∷ []) ≡ true
pass_besides test xs y all new = list_all-append test xs (y ∷ [])
    ∙ and_from (list_all test xs) (test y && true) all (and_from (test y) true new refl)

-- of an object that is measured each field is
pub measured_fields : (c : ℕ) (xs : Vec Val Global) (h : ℕ) → IsMeasuredTree (o.Rec c xs h)
    → all_measured xs.items ≡ true
measured_fields c xs h all = second_of_both (nat_eq h (highest (fields_shown xs.items) + 1))
    (all_measured xs.items)
    (ap (λ (x : ShownTree). x.measured) (sym (shown-Rec c xs h)) ∙ all)

-- a field that is found in an object that is measured is measured
pub found_is_measured : (r : Option (Bor Val)) (xs : List Val) (n : ℕ) → all_measured xs ≡ true
    → option_copied r ≡ slice_get xs n → IfSome r (λ v. IsMeasured v.now)
found_is_measured None xs n all found = tt
found_is_measured (Some v) xs n all found = passes_at_place (λ x. (value_shown x).measured) xs n v.now all (sym found)

-- objects of one class and height whose fields show the same show the same
pub same_record : (c : ℕ) (xs ys : Vec Val Global) (h : ℕ) → map value_shown xs.items ≡ map value_shown ys.items
    → tree_shown (o.Rec c xs h) ≡ tree_shown (o.Rec c ys h)
same_record c xs ys h same = record_by_fields c xs h ∙ ap (λ zs. record_shown c zs h) same ∙ sym
    (record_by_fields c ys h)

trees_by_shown : (xs : List Object) → map shown_tree xs ≡ map (λ (y : ShownTree). y.tree) (map tree_shown xs)
trees_by_shown [] = refl
trees_by_shown (x ∷ xs) = ap (λ ts. shown_tree x ∷ ts) (trees_by_shown xs)

measured_by_shown : (xs : List Object) → list_all (λ x. (tree_shown x).measured) xs
    ≡ list_all (λ (y : ShownTree). y.measured) (map tree_shown xs)
measured_by_shown [] = refl
measured_by_shown (x ∷ xs) = ap (λ b. (tree_shown x).measured && b) (measured_by_shown xs)

-- objects that show the same have the same trees
pub same_trees : (xs ys : List Object) → map tree_shown xs ≡ map tree_shown ys → map shown_tree xs ≡ map shown_tree ys
same_trees xs ys same = trees_by_shown xs ∙ ap (map (λ (y : ShownTree). y.tree)) same ∙ sym (trees_by_shown ys)

-- of objects that show the same all are measured, or not all
pub same_measured : (xs ys : List Object) → map tree_shown xs ≡ map tree_shown ys
    → list_all (λ x. (tree_shown x).measured) ys ≡ true → list_all (λ x. (tree_shown x).measured) xs ≡ true
same_measured xs ys same all = measured_by_shown xs ∙ ap (list_all (λ (y : ShownTree). y.measured)) same
    ∙ sym (measured_by_shown ys) ∙ all

-- a member that is found among measured ones is measured
pub found_member_is_measured : (r : Option (Bor Object)) (xs : List Object) (n : ℕ)
    → list_all (λ x. (tree_shown x).measured) xs ≡ true → option_copied r ≡ slice_get xs n
    → IfSome r (λ x. IsMeasuredTree x.now)
found_member_is_measured None xs n all found = tt
found_member_is_measured (Some x) xs n all found =
    passes_at_place (λ y. (tree_shown y).measured) xs n x.now all (sym found)
