-- Facts on values with another value inside, and on their heights.
use Rattle.std.proofs.Common.{◌≡◌, ℕ, zero, suc, ◌+◌, ◌<◌, ◌≤◌, max, min, nat_eq, Bool, true, List, [], ◌∷◌, length}
use Rattle.std.proofs.Common.{Option, None, Some}
use Rattle.std.proofs.Common.{slice_get, take, drop, refl, ap, sym, ◌∙◌, subst, arith}
use Rattle.std.specs.Prelude.{slice_set}
use Rattle.std.specs.List.{list_all}
use Rattle.std.proofs.lemmas.List.{drop_all, at_drop_more, take_all, length-drop}
use Rattle.std.proofs.Common.{get_or}
use Rattle.std.proofs.lemmas.Bool.{and_from}
use Rattle.ae_values.proofs.from_text.Basics.{first_of_both, second_of_both}
use Rattle.std.proofs.lemmas.Option.{none-some, same_Some}
use Rattle.ae_rules.specs.Verdict.{given}
use Rattle.ae_semantics.specs.Values.{Tree, Owned, Object, Array, Val, Values, NoValue, AndValue, value_at}
use Rattle.ae_semantics.specs.Values.{with_changed, put_at, height, tree_height, highest}
use Rattle.ae_semantics.specs.Places.{field_value}
use Rattle.ae_values.specs.declared.value.Val.{Val as Held}
use Rattle.ae_semantics.specs.Values.{OfInt, OfBool, Null, Member}
use Rattle.std.specs.Prelude.{◌⊎◌, ℤ, option_map}
use Rattle.std.specs.declared.vec.Vec.{Vec}
use Rattle.ae_values.specs.declared.value.Object.TheVariants as o
use Rattle.ae_values.specs.Shown.{ShownTree, shown-Rec, IsMeasuredTree, IsMeasured, all_measured, value_shown}
use Rattle.ae_values.specs.Shown.{tree_shown}
use Rattle.std.proofs.lemmas.Bool.{eqb-true}
use Rattle.std.proofs.lemmas.Option.{slice_get_past, slice_get_read}
use Rattle.ae_values.proofs.from_text.Basics.{number_is_itself}
use Rattle.ae_values.proofs.ValueLemmas.{value_at_place, passes_at_place, pass_with_new, measured_fields}
use Rattle.std.proofs.Common.{inl, inr}
use Rattle.std.specs.declared.boxed.Box.{Box}
use Rattle.std.specs.declared.alloc.Global.{Global}
use Rattle.ae_values.specs.declared.value.Object.{Object as HeldObject}
use Rattle.ae_values.specs.declared.value.Val.TheVariants as v
use Rattle.ae_values.specs.Shown.{shown, fields_shown, shown_tree, ShownValue, shown-Int, shown-Bool, shown-Null}
use Rattle.ae_values.specs.Shown.{shown-Object, shown-Ref}
use Rattle.ae_values.specs.Inside.{value_inside, highest_besides}

-- the fields are as high as the one with this number, or as the others
pub highest_by_one : (xs : Values) (i : ℕ) (v : Val) → value_at xs i ≡ Some v
    → highest xs ≡ max (height v) (highest_besides xs i)
highest_by_one NoValue i v at = absurd (none-some v at)
highest_by_one (AndValue x xs) zero v at = ap (λ y. max (height y) (highest xs)) (same_Some x v at)
highest_by_one (AndValue x xs) (suc i) v at = omega (arith, highest_by_one xs i v at)

-- a change of one leaves the others
pub besides_changed : (xs : Values) (i : ℕ) (f : Val → Val) → highest_besides (with_changed xs i f) i
    ≡ highest_besides xs i
besides_changed NoValue i f = refl
besides_changed (AndValue x xs) zero f = refl
besides_changed (AndValue x xs) (suc i) f = ap (max (height x)) (besides_changed xs i f)

-- the one that is changed is what the change makes of it
pub changed_there : (xs : Values) (i : ℕ) (f : Val → Val) (v : Val) → value_at xs i ≡ Some v
    → value_at (with_changed xs i f) i ≡ Some (f v)
changed_there NoValue i f v at = absurd (none-some v at)
changed_there (AndValue x xs) zero f v at = ap (λ y. Some (f y)) (same_Some x v at)
changed_there (AndValue x xs) (suc i) f v at = changed_there xs i f v at

-- how high the fields are with one changed
pub highest_changed : (xs : Values) (i : ℕ) (f : Val → Val) (v : Val) → value_at xs i ≡ Some v
    → highest (with_changed xs i f) ≡ max (height (f v)) (highest_besides xs i)
highest_changed xs i f v at = highest_by_one (with_changed xs i f) i (f v) (changed_there xs i f v at)
    ∙ ap (max (height (f v))) (besides_changed xs i f)

-- where there is no field with this number nothing changes
pub nothing_changed : (xs : Values) (i : ℕ) (f : Val → Val) → value_at xs i ≡ None → with_changed xs i f ≡ xs
nothing_changed NoValue i f at = refl
nothing_changed (AndValue x xs) zero f at = absurd (none-some x (sym at))
nothing_changed (AndValue x xs) (suc i) f at = ap (AndValue x) (nothing_changed xs i f at)

-- a field that is written is a value that is changed
pub written_field : (xs : List Held) (i : ℕ) (x y : Held) (f : Val → Val) → slice_get xs i ≡ Some x → shown y
    ≡ f (shown x)
    → fields_shown (slice_set xs i y) ≡ with_changed (fields_shown xs) i f
written_field [] i x y f at is = absurd (none-some x at)
written_field (z ∷ zs) zero x y f at is = ap (λ v. AndValue v (fields_shown zs))
    (is ∙ ap (λ w. f (shown w)) (sym (same_Some z x at)))
written_field (z ∷ zs) (suc i) x y f at is = ap (AndValue (shown z)) (written_field zs i x y f at is)

one_more : (i : ℕ) → suc i + 1 ≡ suc (i + 1)
one_more i = omega arith

highest_of_none : (i : ℕ) → highest (fields_shown (drop (i + 1) [])) ≡ 0
highest_of_none i = ap (λ xs. highest (fields_shown xs)) (drop_all (i + 1) [] (omega arith))

-- the others are those before and behind
pub besides_before_and_behind : (xs : List Held) (i : ℕ)
    → highest_besides (fields_shown xs) i ≡ max (highest (fields_shown (take i xs))) (highest (fields_shown
    (drop (i + 1) xs)))
besides_before_and_behind [] zero = refl
besides_before_and_behind [] (suc i) = omega (arith, highest_of_none (suc i))
besides_before_and_behind (x ∷ xs) zero = omega arith
besides_before_and_behind (x ∷ xs) (suc i) =
    let further : highest (fields_shown (drop (suc i + 1) (x ∷ xs))) ≡ highest (fields_shown (drop (i + 1) xs)) =
    ap (λ n. highest (fields_shown (drop n (x ∷ xs)))) (one_more i) in
    omega (arith, besides_before_and_behind xs i, further)

-- where all pass a test, those before a place and those behind it do
pub pass_before : {A : Type 0} (test : A → Bool) (xs : List A) (i : ℕ) → list_all test xs ≡ true
    → list_all test (take i xs) ≡ true
pass_before test xs zero all = refl
pass_before test [] (suc i) all = refl
pass_before test (x ∷ xs) (suc i) all = and_from (test x) (list_all test (take i xs))
    (first_of_both (test x) (list_all test xs) all)
    (pass_before test xs i (second_of_both (test x) (list_all test xs) all))

pub pass_behind : {A : Type 0} (test : A → Bool) (xs : List A) (i : ℕ) → list_all test xs ≡ true
    → list_all test (drop i xs) ≡ true
pass_behind test xs zero all = all
pass_behind test [] (suc i) all = refl
pass_behind test (x ∷ xs) (suc i) all = pass_behind test xs i (second_of_both (test x) (list_all test xs) all)

-- the highest of those before a place and of those behind it is the highest of the others
pub highest_of_both : (xs : List Held) (i n a b : ℕ) → all_measured xs ≡ true → length xs ≤ n + (i + 1)
    → (all_measured (take i xs) ≡ true → a ≡ highest (fields_shown (take i xs)))
    → (all_measured (take n (drop (i + 1) xs)) ≡ true → b ≡ highest (fields_shown (take n (drop (i + 1) xs))))
    → max a b ≡ highest_besides (fields_shown xs) i
highest_of_both xs i n a b all rest first second =
    let whole : take n (drop (i + 1) xs) ≡ drop (i + 1) xs =
    take_all n (drop (i + 1) xs) (omega (arith, length-drop (i + 1) xs)) in
    let before = first (pass_before (λ u. (value_shown u).measured) xs i all) in
    let behind = second (ap all_measured whole ∙ pass_behind (λ u. (value_shown u).measured) xs (i + 1) all) in
    let same : highest (fields_shown (take n (drop (i + 1) xs))) ≡ highest (fields_shown (drop (i + 1) xs)) =
    ap (λ us. highest (fields_shown us)) whole in
    omega (arith, before, behind, same, besides_before_and_behind xs i)

-- what is inside an object is inside its field
pub inside_field : (t : Tree) (i : ℕ) (is : List ℕ)
    → value_inside (i ∷ is) (Owned t) ≡ given (field_value t i) None (value_inside is)
inside_field (Object c xs) i is = refl
inside_field (Array ns) i is = refl

-- one field further on
pub inside_further : (is : List ℕ) (k : ℕ) (t : Tree) (o : Option Val) → k < length is → o ≡ field_value t
    (get_or is k 0)
    → value_inside (drop k is) (Owned t) ≡ given o None (value_inside (drop (k + 1) is))
inside_further is k t o within at = at_drop_more (λ js. value_inside js (Owned t)) is k 0 within
    ∙ inside_field t (get_or is k 0) (drop (k + 1) is)
    ∙ ap (λ p. given p None (value_inside (drop (k + 1) is))) (sym at)

-- a value of the code that is an object is an object of the meaning
pub shown_object : (x : Held) (b : Box HeldObject Global) (r : HeldObject) → x ≡ v.Object b → r ≡ b.value
    → shown x ≡ Owned (shown_tree r)
shown_object x b r is value_held = ap shown is ∙ ap (λ (y : ShownValue). y.value) (shown-Object b)
    ∙ ap (λ y. Owned (shown_tree y)) (sym value_held)

-- a value of the code is no object
abbrev pub IsNoObject : Held → Type 0
IsNoObject x = ((n : ℤ) × (x ≡ v.Int n)) ⊎ (((b : Bool) × (x ≡ v.Bool b)) ⊎ ((x ≡ v.Null) ⊎ ((n : ℕ) × (x ≡ v.Ref n))))

-- what is so of each value that is no object
pub of_no_object : (P : Val → Type 0) → ((n : ℤ) → P (OfInt n)) → ((b : Bool) → P (OfBool b)) → P Null
    → ((n : ℕ) → P (Member n)) → (x : Held) → IsNoObject x → P (shown x)
of_no_object P ints bools null members x (inl (n, is)) = subst P
    (sym (ap shown is ∙ ap (λ (y : ShownValue). y.value) (shown-Int n))) (ints n)
of_no_object P ints bools null members x (inr (inl (b, is))) = subst P
    (sym (ap shown is ∙ ap (λ (y : ShownValue). y.value) (shown-Bool b))) (bools b)
of_no_object P ints bools null members x (inr (inr (inl is))) = subst P
    (sym (ap shown is ∙ ap (λ (y : ShownValue). y.value) shown-Null)) null
of_no_object P ints bools null members x (inr (inr (inr (n, is)))) = subst P
    (sym (ap shown is ∙ ap (λ (y : ShownValue). y.value) (shown-Ref n))) (members n)

-- nothing is inside what is no object
pub inside_no_object : (is : List ℕ) (k : ℕ) (x : Held) → k < length is → IsNoObject x
    → value_inside (drop k is) (shown x) ≡ None
inside_no_object is k x within none = at_drop_more (λ js. value_inside js (shown x)) is k 0 within
    ∙ of_no_object (λ v. value_inside (get_or is k 0 ∷ drop (k + 1) is) v ≡ None) (λ n. refl) (λ b. refl) refl
    (λ n. refl)
    x none

-- a list without length is empty
pub no_fields : (is : List ℕ) → length is ≡ 0 → is ≡ []
no_fields [] none = refl
no_fields (i ∷ is) none = absurd (omega (arith, none))

-- ---- an object with another value inside

-- an object with its fields is a tree with them
pub shown_record : (r : HeldObject) (c : ℕ) (xs : Vec Held Global) (h : ℕ) → r ≡ o.Rec c xs h
    → shown_tree r ≡ Object c (fields_shown xs.items)
shown_record r c xs h is = ap shown_tree is ∙ ap (λ (y : ShownTree). y.tree) (shown-Rec c xs h)

-- of an object that is measured the height is one more than that of its highest field
pub measured_height : (c : ℕ) (xs : Vec Held Global) (h : ℕ) → IsMeasuredTree (o.Rec c xs h)
    → h ≡ highest (fields_shown xs.items) + 1
measured_height c xs h all = eqb-true h (highest (fields_shown xs.items) + 1)
    (first_of_both (nat_eq h (highest (fields_shown xs.items) + 1)) (all_measured xs.items)
    (ap (λ (x : ShownTree). x.measured) (sym (shown-Rec c xs h)) ∙ all))

-- an object is measured where its height is one more than that of its highest field, and its fields are measured
pub is_measured : (c : ℕ) (xs : Vec Held Global) (h : ℕ) → h ≡ highest (fields_shown xs.items) + 1
    → all_measured xs.items ≡ true → IsMeasuredTree (o.Rec c xs h)
is_measured c xs h high all = ap (λ (x : ShownTree). x.measured) (shown-Rec c xs h)
    ∙ and_from (nat_eq h (highest (fields_shown xs.items) + 1)) (all_measured xs.items)
    (ap (λ n. nat_eq n (highest (fields_shown xs.items) + 1)) high ∙ number_is_itself (highest
    (fields_shown xs.items) + 1))
    all

-- a field that is read from an object is a value of the tree
pub value_there : (xs : List Held) (i : ℕ) (x : Held) → slice_get xs i ≡ Some x
    → value_at (fields_shown xs) i ≡ Some (shown x)
value_there xs i x at = value_at_place xs i ∙ ap (option_map shown) at

-- the tree of an object of which one field was changed
pub record_changed : (c d : ℕ) (xs xs' ys : Vec Held Global) (h' : ℕ) (i : ℕ) (x y : Held) (f : Val → Val) → d ≡ c
    → xs' ≡ xs → slice_get xs.items i ≡ Some x → ys.items ≡ slice_set xs'.items i y → shown y ≡ f (shown x)
    → Owned (shown_tree (o.Rec d ys h')) ≡ Owned (Object c (with_changed (fields_shown xs.items) i f))
record_changed c d xs xs' ys h' i x y f class same at written value =
    ap Owned (shown_record (o.Rec d ys h') d ys h' refl)
    ∙ ap (λ n. Owned (Object n (fields_shown ys.items))) class
    ∙ ap (λ zs. Owned (Object c (fields_shown zs)))
    (written ∙ ap (λ (zs : Vec Held Global). slice_set zs.items i y) same)
    ∙ ap (λ vs. Owned (Object c vs)) (written_field xs.items i x y f at value)

-- the tree of an object with a new value inside one field
pub record_replaced : (r : HeldObject) (c d : ℕ) (xs xs' ys : Vec Held Global) (h h' : ℕ) (i : ℕ) (x y : Held)
    (is : List ℕ) (new : Val) → r ≡ o.Rec c xs h → d ≡ c → xs' ≡ xs → slice_get xs.items i ≡ Some x
    → ys.items ≡ slice_set xs'.items i y → shown y ≡ put_at is new (shown x)
    → Owned (shown_tree (o.Rec d ys h')) ≡ put_at (i ∷ is) new (Owned (shown_tree r))
record_replaced r c d xs xs' ys h h' i x y is new object class same at written value =
    record_changed c d xs xs' ys h' i x y (put_at is new) class same at written value
    ∙ ap (λ t. put_at (i ∷ is) new (Owned t)) (sym (shown_record r c xs h object))

-- the tree of an object without the field that was to be changed
pub record_kept : (r : HeldObject) (c d : ℕ) (xs xs' : Vec Held Global) (h h' : ℕ) (i : ℕ) (is : List ℕ) (new : Val)
    → r ≡ o.Rec c xs h → d ≡ c → xs' ≡ xs → length xs'.items ≤ i
    → Owned (shown_tree (o.Rec d xs' h')) ≡ put_at (i ∷ is) new (Owned (shown_tree r))
record_kept r c d xs xs' h h' i is new object class same past =
    ap Owned (shown_record (o.Rec d xs' h') d xs' h' refl)
    ∙ ap (λ n. Owned (Object n (fields_shown xs'.items))) class
    ∙ ap (λ vs. Owned (Object c vs)) (sym (nothing_changed (fields_shown xs'.items) i (put_at is new)
    (value_at_place xs'.items i ∙ ap (option_map shown) (slice_get_past xs'.items i past))))
    ∙ ap (λ (zs : Vec Held Global). Owned (Object c (with_changed (fields_shown zs.items) i (put_at is new)))) same
    ∙ ap (λ t. put_at (i ∷ is) new (Owned t)) (sym (shown_record r c xs h object))

-- the value that stands in a field, or behind it
pub inside_record : (r : HeldObject) (c : ℕ) (xs : Vec Held Global) (h : ℕ) (i : ℕ) (p : Option Held) (is : List ℕ)
    → r ≡ o.Rec c xs h → slice_get xs.items i ≡ p
    → value_inside (i ∷ is) (Owned (shown_tree r)) ≡ given (option_map shown p) None (value_inside is)
inside_record r c xs h i p is object at = ap (λ t. value_inside (i ∷ is) (Owned t)) (shown_record r c xs h object)
    ∙ ap (λ v. given v None (value_inside is)) (value_at_place xs.items i ∙ ap (option_map shown) at)

-- what is found at a place of a list that is read back
pub found_there : (xs xs' : Vec Held Global) (i : ℕ) (x : Held) → xs' ≡ xs → i < xs'.len → x ≡ get_or xs'.items i x
    → slice_get xs.items i ≡ Some x
found_there xs xs' i x same within at = ap (λ (us : Vec Held Global). slice_get us.items i) (sym same)
    ∙ slice_get_read xs'.items xs'.len i x xs'.ok.0 within at

-- nothing is found behind the end of a list that is read back
pub not_there : (xs xs' : Vec Held Global) (i : ℕ) → xs' ≡ xs → length xs'.items ≤ i → slice_get xs.items i ≡ None
not_there xs xs' i same past = ap (λ (us : Vec Held Global). slice_get us.items i) (sym same)
    ∙ slice_get_past xs'.items i past

-- of an object that is measured a field that is found is measured
pub found_in_record : (r : HeldObject) (c : ℕ) (xs : Vec Held Global) (h : ℕ) (i : ℕ) (x : Held) → r ≡ o.Rec c xs h
    → slice_get xs.items i ≡ Some x → IsMeasuredTree r → IsMeasured x
found_in_record r c xs h i x object at measured = passes_at_place (λ u. (value_shown u).measured) xs.items i x
    (measured_fields c xs h (subst IsMeasuredTree object measured)) at

-- a value whose object has a new tree is a new tree
pub object_replaced : (x : Held) (b b' : Box HeldObject Global) (r : HeldObject) (fields : List ℕ) (i : ℕ) (is : List ℕ)
    (new : Val) → x ≡ v.Object b → r ≡ b.value → fields ≡ i ∷ is
    → Owned (shown_tree b'.value) ≡ put_at (i ∷ is) new (Owned (shown_tree r))
    → shown (v.Object b') ≡ put_at fields new (shown x)
object_replaced x b b' r fields i is new object value_held first tree =
    shown_object (v.Object b') b' b'.value refl refl ∙ tree
    ∙ ap (put_at (i ∷ is) new) (sym (shown_object x b r object value_held))
    ∙ ap (λ js. put_at js new (shown x)) (sym first)

-- a value whose object is measured is measured
pub object_measured : (x : Held) (b b' : Box HeldObject Global) (r : HeldObject) (fields : List ℕ) (i : ℕ) (is : List ℕ)
    (new : Val) → x ≡ v.Object b → r ≡ b.value → fields ≡ i ∷ is
    → (IsMeasuredTree r → height (put_at (i ∷ is) new (Owned (shown_tree r))) < 4294967296 → IsMeasuredTree b'.value)
    → IsMeasured x → height (put_at fields new (shown x)) < 4294967296 → IsMeasured (v.Object b')
object_measured x b b' r fields i is new object value_held first kept measured room =
    ap (λ (y : ShownValue). y.measured) (shown-Object b')
    ∙ kept (ap (λ y. (tree_shown y).measured) value_held ∙ ap (λ (y : ShownValue). y.measured) (sym (shown-Object b))
    ∙ subst IsMeasured object measured)
    (subst (λ n. n < 4294967296) (ap (λ js. height (put_at js new (shown x))) first
    ∙ ap (λ u. height (put_at (i ∷ is) new u)) (shown_object x b r object value_held)) room)

-- what is so of the heights where one field of an object was changed
pub record_measured : (r : HeldObject) (c d : ℕ) (xs xs' ys : Vec Held Global) (h h' m before after : ℕ) (i : ℕ)
    (x y : Held) (is : List ℕ) (new : Val) (zs : List Held) → r ≡ o.Rec c xs h → xs' ≡ xs → h' ≡ h
    → slice_get xs.items i ≡ Some x → ys.items ≡ slice_set xs'.items i y → zs ≡ slice_set xs'.items i y
    → shown y ≡ put_at is new (shown x) → (IsMeasured x → before ≡ height (shown x))
    → (IsMeasured x → height (put_at is new (shown x)) < 4294967296 → IsMeasured y)
    → (IsMeasured y → after ≡ height (shown y))
    → (all_measured zs ≡ true → h' ≡ max before (highest_besides (fields_shown zs) i) + 1
    → m ≡ min (max after (highest_besides (fields_shown zs) i) + 1) 4294967295)
    → IsMeasuredTree r → height (put_at (i ∷ is) new (Owned (shown_tree r))) < 4294967296
    → IsMeasuredTree (o.Rec d ys m)
record_measured r c d xs xs' ys h h' m before after i x y is new zs object same high at written seen value
    was kept now made measured room =
    let old : IsMeasuredTree (o.Rec c xs h) = subst IsMeasuredTree object measured in
    let fields : all_measured xs.items ≡ true = measured_fields c xs h old in
    let field : IsMeasured x = passes_at_place (λ u. (value_shown u).measured) xs.items i x fields at in
    let vs : Values = fields_shown xs.items in
    let put : Val → Val = put_at is new in
    let low : height (put_at (i ∷ is) new (Owned (shown_tree r))) ≡ highest (with_changed vs i put) + 1 =
    ap (λ t. height (put_at (i ∷ is) new (Owned t))) (shown_record r c xs h object) in
    let high_now : highest (with_changed vs i put) ≡ max (height (put (shown x))) (highest_besides vs i) =
    (highest_changed) vs i put (shown x) (value_there xs.items i x at) in
    let high_then : highest vs ≡ max (height (shown x)) (highest_besides vs i) =
    highest_by_one vs i (shown x) (value_there xs.items i x at) in
    let new_field : IsMeasured y = kept field (omega (arith, low, high_now, room)) in
    let set : slice_set xs'.items i y ≡ slice_set xs.items i y =
    ap (λ (us : Vec Held Global). slice_set us.items i y) same in
    let set_measured : all_measured (slice_set xs.items i y) ≡ true =
    pass_with_new (λ u. (value_shown u).measured) xs.items i y fields new_field in
    let set_shown : fields_shown (slice_set xs.items i y) ≡ with_changed vs i put =
    written_field xs.items i x y put at value in
    let others : highest_besides (fields_shown zs) i ≡ highest_besides vs i =
    ap (λ us. highest_besides (fields_shown us) i) (seen ∙ set) ∙ ap (λ us. highest_besides us i) set_shown
    ∙ besides_changed vs i put in
    let result : m ≡ min (max after (highest_besides (fields_shown zs) i) + 1) 4294967295 =
    made (ap all_measured (seen ∙ set) ∙ set_measured)
    (omega (arith, high, measured_height c xs h old, high_then, others, was field)) in
    let written_high : highest (fields_shown ys.items) ≡ highest (with_changed vs i put) =
    ap (λ us. highest (fields_shown us)) (written ∙ set) ∙ ap highest set_shown in
    let same_height : height (shown y) ≡ height (put (shown x)) = ap height value in
    is_measured d ys m (omega (arith, result, others, now new_field, same_height, written_high, high_now, low, room))
    (ap all_measured (written ∙ set) ∙ set_measured)

-- how high an object would be with a value of another height inside one field
pub record_height_with : (r : HeldObject) (c : ℕ) (xs : Vec Held Global) (h before after m : ℕ) (i : ℕ) (x : Held)
    (is : List ℕ) (new : Val) (zs : List Held) → r ≡ o.Rec c xs h → slice_get xs.items i ≡ Some x → zs ≡ xs.items
    → (IsMeasured x → before ≡ height (shown x))
    → (IsMeasured x → after ≡ min (height (put_at is new (shown x))) 4294967295)
    → (all_measured zs ≡ true → h ≡ max before (highest_besides (fields_shown zs) i) + 1
    → m ≡ min (max after (highest_besides (fields_shown zs) i) + 1) 4294967295)
    → IsMeasuredTree r → m ≡ min (height (put_at (i ∷ is) new (Owned (shown_tree r)))) 4294967295
record_height_with r c xs h before after m i x is new zs object at seen was now made measured =
    let old : IsMeasuredTree (o.Rec c xs h) = subst IsMeasuredTree object measured in
    let fields : all_measured xs.items ≡ true = measured_fields c xs h old in
    let field : IsMeasured x = passes_at_place (λ u. (value_shown u).measured) xs.items i x fields at in
    let vs : Values = fields_shown xs.items in
    let put : Val → Val = put_at is new in
    let whole : height (put_at (i ∷ is) new (Owned (shown_tree r))) ≡ highest (with_changed vs i put) + 1 =
    ap (λ t. height (put_at (i ∷ is) new (Owned t))) (shown_record r c xs h object) in
    let high_now : highest (with_changed vs i put) ≡ max (height (put (shown x))) (highest_besides vs i) =
    (highest_changed) vs i put (shown x) (value_there xs.items i x at) in
    let high_then : highest vs ≡ max (height (shown x)) (highest_besides vs i) =
    highest_by_one vs i (shown x) (value_there xs.items i x at) in
    let others : highest_besides (fields_shown zs) i ≡ highest_besides vs i =
    ap (λ us. highest_besides (fields_shown us) i) seen in
    let result : m ≡ min (max after (highest_besides (fields_shown zs) i) + 1) 4294967295 =
    made (ap all_measured seen ∙ fields)
    (omega (arith, measured_height c xs h old, high_then, others, was field)) in
    omega (arith, result, others, now field, whole, high_now)

-- an object without the field to be changed stays as high as it is
pub record_height_kept : (r : HeldObject) (c : ℕ) (xs : Vec Held Global) (h m : ℕ) (i : ℕ) (is : List ℕ) (new : Val)
    → r ≡ o.Rec c xs h → slice_get xs.items i ≡ None → m < 4294967296 → m ≡ tree_height (shown_tree r)
    → m ≡ min (height (put_at (i ∷ is) new (Owned (shown_tree r)))) 4294967295
record_height_kept r c xs h m i is new object none low high =
    let tree : shown_tree r ≡ Object c (fields_shown xs.items) = shown_record r c xs h object in
    let kept : height (put_at (i ∷ is) new (Owned (shown_tree r))) ≡ tree_height (shown_tree r) =
    ap (λ t. height (put_at (i ∷ is) new (Owned t))) tree
    ∙ ap (λ vs. highest vs + 1) (nothing_changed (fields_shown xs.items) i (put_at is new)
    (value_at_place xs.items i ∙ ap (option_map shown) none))
    ∙ ap tree_height (sym tree) in
    omega (arith, high, low, kept)

-- where a change makes no value higher, none of the values is higher with it
changed_lower : (xs : Values) (i : ℕ) (f : Val → Val) → ((v : Val) → height (f v) ≤ height v)
    → highest (with_changed xs i f) ≤ highest xs
changed_lower NoValue i f lower = omega arith
changed_lower (AndValue x xs) zero f lower = omega (arith, lower x)
changed_lower (AndValue x xs) (suc i) f lower = omega (arith, changed_lower xs i f lower)

-- with null inside no value is higher
pub lower_with_null : (is : List ℕ) (v : Val) → height (put_at is Null v) ≤ height v
lower_with_null [] v = omega arith
lower_with_null (i ∷ is) (OfInt n) = omega arith
lower_with_null (i ∷ is) (OfBool b) = omega arith
lower_with_null (i ∷ is) Null = omega arith
lower_with_null (i ∷ is) (Member n) = omega arith
lower_with_null (i ∷ is) (Owned (Array ns)) = omega arith
lower_with_null (i ∷ is) (Owned (Object c xs)) =
    omega (arith, changed_lower xs i (put_at is Null) (λ w. lower_with_null is w))
