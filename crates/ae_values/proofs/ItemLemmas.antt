-- Facts on values with one item of an array inside changed.
use Rattle.std.proofs.Common.{◌≡◌, ℕ, zero, suc, ◌+◌, max, true, List, [], ◌∷◌, length, Option, None, Some}
use Rattle.std.proofs.Common.{slice_get, refl, ap, sym, ◌∙◌, subst}
use Rattle.std.specs.Prelude.{slice_set, ℤ}
use Rattle.std.specs.declared.vec.Vec.{Vec}
use Rattle.std.specs.declared.alloc.Global.{Global}
use Rattle.std.proofs.lemmas.Option.{same_Some}
use Rattle.ae_semantics.specs.Values.{Val, OfInt, OfBool, Null, Owned, Member, Object, Array, Values, NoValue, AndValue}
use Rattle.ae_rules.specs.Verdict.{given}
use Rattle.ae_semantics.specs.Values.{value_at, with_changed, put_at, height, highest}
use Rattle.ae_values.specs.Inside.{value_inside, array_inside, items_of, item_changed}
use Rattle.ae_values.specs.declared.value.Val.{Val as Held}
use Rattle.ae_values.specs.declared.value.Object.{Object as HeldObject}
use Rattle.ae_values.specs.declared.value.Object.TheVariants as o
use Rattle.ae_values.specs.Shown.{shown, shown_tree, fields_shown, all_measured, value_shown, IsMeasured}
use Rattle.ae_values.specs.Shown.{IsMeasuredTree}
use Rattle.ae_values.proofs.ValueLemmas.{passes_at_place, pass_with_new, measured_fields, value_at_place}
use Rattle.std.proofs.Common.{◌≤◌}
use Rattle.std.specs.Prelude.{option_map}
use Rattle.ae_values.proofs.PutLemmas.{nothing_changed, written_field, shown_record, measured_height, is_measured}
use Rattle.ae_values.proofs.PutLemmas.{record_changed, not_there, shown_object}
use Rattle.std.specs.declared.boxed.Box.{Box}
use Rattle.ae_values.specs.declared.value.Val.TheVariants as v
use Rattle.ae_values.specs.Shown.{ShownValue, shown-Object, tree_shown}

-- a value with one item of the array at a place changed, along the way to it
abbrev pub changed_item : List ℕ → ℕ → ℤ → Val → Val
changed_item [] k n (Owned (Array ns)) = Owned (Array (slice_set ns k n))
changed_item [] k n v = v
changed_item (i ∷ is) k n (Owned (Object c xs)) = Owned (Object c (with_changed xs i (changed_item is k n)))
changed_item (i ∷ is) k n v = v

-- only the value that is there counts
changed_alike : (f g : Val → Val) (w : Val) → f w ≡ g w → (xs : Values) (i : ℕ) → value_at xs i ≡ Some w
    → with_changed xs i f ≡ with_changed xs i g
changed_alike f g w same NoValue i at = refl
changed_alike f g w same (AndValue x xs) zero at = ap (λ y. AndValue y xs)
    (ap f (same_Some x w at) ∙ same ∙ ap g (sym (same_Some x w at)))
changed_alike f g w same (AndValue x xs) (suc i) at = ap (AndValue x) (changed_alike f g w same xs i at)

-- a change that leaves the value that is there changes nothing
changed_to_same : (xs : Values) (i : ℕ) → with_changed xs i (λ v. v) ≡ xs
changed_to_same NoValue i = refl
changed_to_same (AndValue x xs) zero = refl
changed_to_same (AndValue x xs) (suc i) = ap (AndValue x) (changed_to_same xs i)

-- a change of an item inside a field
inside_one : (c : ℕ) (xs : Values) (i : ℕ) (is : List ℕ) (k : ℕ) (n : ℤ) (w : Val) (found : Option (List ℤ))
    → value_at xs i ≡ Some w → array_inside is w ≡ found
    → changed_item is k n w ≡ given found w (λ ns. put_at is (Owned (Array (slice_set ns k n))) w)
    → Owned (Object c (with_changed xs i (changed_item is k n)))
    ≡ given found (Owned (Object c xs)) (λ ns. put_at (i ∷ is) (Owned (Array (slice_set ns k n))) (Owned (Object c xs)))
inside_one c xs i is k n w None at none same = ap (λ vs. Owned (Object c vs))
    (changed_alike (changed_item is k n) (λ v. v) w same xs i at ∙ changed_to_same xs i)
inside_one c xs i is k n w (Some ns) at some same = ap (λ vs. Owned (Object c vs))
    (changed_alike (changed_item is k n) (put_at is (Owned (Array (slice_set ns k n)))) w same xs i at)

-- the change along the way is the change of the array that is found
pub changed_on_the_way : (is : List ℕ) (k : ℕ) (n : ℤ) (v : Val) → changed_item is k n v ≡ item_changed is k n v
changed_on_the_way [] k n (OfInt m) = refl
changed_on_the_way [] k n (OfBool b) = refl
changed_on_the_way [] k n Null = refl
changed_on_the_way [] k n (Member m) = refl
changed_on_the_way [] k n (Owned (Array ns)) = refl
changed_on_the_way [] k n (Owned (Object c xs)) = refl
changed_on_the_way (i ∷ is) k n (OfInt m) = refl
changed_on_the_way (i ∷ is) k n (OfBool b) = refl
changed_on_the_way (i ∷ is) k n Null = refl
changed_on_the_way (i ∷ is) k n (Member m) = refl
changed_on_the_way (i ∷ is) k n (Owned (Array ns)) = refl
changed_on_the_way (i ∷ is) k n (Owned (Object c xs)) =
    by_field (value_at xs i) refl (λ w. changed_on_the_way is k n w)
  where
    by_field : (o : Option Val) → value_at xs i ≡ o
        → ((w : Val) → changed_item is k n w ≡ item_changed is k n w)
        → Owned (Object c (with_changed xs i (changed_item is k n)))
        ≡ given (given (given o None (value_inside is)) None items_of) (Owned (Object c xs))
        (λ ns. put_at (i ∷ is) (Owned (Array (slice_set ns k n))) (Owned (Object c xs)))
    by_field None at further = ap (λ vs. Owned (Object c vs)) (nothing_changed xs i (changed_item is k n) at)
    by_field (Some w) at further = inside_one c xs i is k n w (array_inside is w) at refl (further w)

-- where a change leaves each value as high as it was, the fields stay as high
changed_as_high : (xs : Values) (i : ℕ) (f : Val → Val) → ((v : Val) → height (f v) ≡ height v)
    → highest (with_changed xs i f) ≡ highest xs
changed_as_high NoValue i f same = refl
changed_as_high (AndValue x xs) zero f same = ap (λ h. max h (highest xs)) (same x)
changed_as_high (AndValue x xs) (suc i) f same = ap (max (height x)) (changed_as_high xs i f same)

-- a value with another item in an array is as high as before
pub as_high_with_item : (is : List ℕ) (k : ℕ) (n : ℤ) (v : Val) → height (changed_item is k n v) ≡ height v
as_high_with_item [] k n (OfInt m) = refl
as_high_with_item [] k n (OfBool b) = refl
as_high_with_item [] k n Null = refl
as_high_with_item [] k n (Member m) = refl
as_high_with_item [] k n (Owned (Array ns)) = refl
as_high_with_item [] k n (Owned (Object c xs)) = refl
as_high_with_item (i ∷ is) k n (OfInt m) = refl
as_high_with_item (i ∷ is) k n (OfBool b) = refl
as_high_with_item (i ∷ is) k n Null = refl
as_high_with_item (i ∷ is) k n (Member m) = refl
as_high_with_item (i ∷ is) k n (Owned (Array ns)) = refl
as_high_with_item (i ∷ is) k n (Owned (Object c xs)) =
    ap (λ h. h + 1) (changed_as_high xs i (changed_item is k n) (λ w. as_high_with_item is k n w))

-- the tree of an object with another item in an array inside one field
pub record_with_item : (r : HeldObject) (c d : ℕ) (xs xs' ys : Vec Held Global) (h h' : ℕ) (i : ℕ) (x y : Held)
    (is : List ℕ) (k : ℕ) (n : ℤ) → r ≡ o.Rec c xs h → d ≡ c → xs' ≡ xs → slice_get xs.items i ≡ Some x
    → ys.items ≡ slice_set xs'.items i y → shown y ≡ item_changed is k n (shown x)
    → Owned (shown_tree (o.Rec d ys h')) ≡ item_changed (i ∷ is) k n (Owned (shown_tree r))
record_with_item r c d xs xs' ys h h' i x y is k n object class same at written value =
    record_changed c d xs xs' ys h' i x y (changed_item is k n) class same at written
    (value ∙ sym (changed_on_the_way is k n (shown x)))
    ∙ ap (λ t. changed_item (i ∷ is) k n (Owned t)) (sym (shown_record r c xs h object))
    ∙ changed_on_the_way (i ∷ is) k n (Owned (shown_tree r))

-- the tree of an object without that field
pub record_without_item : (r : HeldObject) (c d : ℕ) (xs xs' : Vec Held Global) (h h' : ℕ) (i : ℕ) (is : List ℕ)
    (k : ℕ) (n : ℤ) → r ≡ o.Rec c xs h → d ≡ c → xs' ≡ xs → length xs'.items ≤ i
    → Owned (shown_tree (o.Rec d xs' h')) ≡ item_changed (i ∷ is) k n (Owned (shown_tree r))
record_without_item r c d xs xs' h h' i is k n object class same past =
    ap Owned (shown_record (o.Rec d xs' h') d xs' h' refl)
    ∙ ap (λ m. Owned (Object m (fields_shown xs'.items))) class
    ∙ ap (λ (us : Vec Held Global). Owned (Object c (fields_shown us.items))) same
    ∙ ap (λ vs. Owned (Object c vs)) (sym (nothing_changed (fields_shown xs.items) i (changed_item is k n)
    (value_at_place xs.items i ∙ ap (option_map shown) (not_there xs xs' i same past))))
    ∙ ap (λ t. changed_item (i ∷ is) k n (Owned t)) (sym (shown_record r c xs h object))
    ∙ changed_on_the_way (i ∷ is) k n (Owned (shown_tree r))

-- an object with another item in an array inside one field is measured
pub record_measured_with_item : (r : HeldObject) (c d : ℕ) (xs xs' ys : Vec Held Global) (h h' : ℕ) (i : ℕ) (x y : Held)
    (is : List ℕ) (k : ℕ) (n : ℤ) → r ≡ o.Rec c xs h → xs' ≡ xs → h' ≡ h → slice_get xs.items i ≡ Some x
    → ys.items ≡ slice_set xs'.items i y → shown y ≡ item_changed is k n (shown x) → (IsMeasured x → IsMeasured y)
    → IsMeasuredTree r → IsMeasuredTree (o.Rec d ys h')
record_measured_with_item r c d xs xs' ys h h' i x y is k n object same high at written value kept measured =
    let old : IsMeasuredTree (o.Rec c xs h) = subst IsMeasuredTree object measured in
    let fields : all_measured xs.items ≡ true = measured_fields c xs h old in
    let field : IsMeasured x = passes_at_place (λ u. (value_shown u).measured) xs.items i x fields at in
    let set : ys.items ≡ slice_set xs.items i y =
    written ∙ ap (λ (us : Vec Held Global). slice_set us.items i y) same in
    let as_high : highest (fields_shown ys.items) ≡ highest (fields_shown xs.items) =
    ap (λ us. highest (fields_shown us)) set
    ∙ ap highest (written_field xs.items i x y (changed_item is k n) at
    (value ∙ sym (changed_on_the_way is k n (shown x))))
    ∙ changed_as_high (fields_shown xs.items) i (changed_item is k n) (as_high_with_item is k n) in
    is_measured d ys h' (high ∙ measured_height c xs h old ∙ ap (λ m. m + 1) (sym as_high))
    (ap all_measured set ∙ pass_with_new (λ u. (value_shown u).measured) xs.items i y fields (kept field))

-- a value whose object has another item in an array inside has it
pub object_with_item : (x : Held) (b b' : Box HeldObject Global) (r : HeldObject) (fields is : List ℕ) (k : ℕ) (n : ℤ)
    → x ≡ v.Object b → r ≡ b.value → fields ≡ is
    → Owned (shown_tree b'.value) ≡ item_changed is k n (Owned (shown_tree r))
    → shown (v.Object b') ≡ item_changed fields k n (shown x)
object_with_item x b b' r fields is k n object value_held same tree =
    shown_object (v.Object b') b' b'.value refl refl ∙ tree
    ∙ ap (item_changed is k n) (sym (shown_object x b r object value_held))
    ∙ ap (λ js. item_changed js k n (shown x)) (sym same)

-- a value whose object stays measured stays measured
pub object_stays_measured : (x : Held) (b b' : Box HeldObject Global) (r : HeldObject) → x ≡ v.Object b → r ≡ b.value
    → (IsMeasuredTree r → IsMeasuredTree b'.value) → IsMeasured x → IsMeasured (v.Object b')
object_stays_measured x b b' r object value_held kept measured =
    ap (λ (y : ShownValue). y.measured) (shown-Object b')
    ∙ kept (ap (λ y. (tree_shown y).measured) value_held ∙ ap (λ (y : ShownValue). y.measured) (sym (shown-Object b))
    ∙ subst IsMeasured object measured)
