-- Operators on values of the forms that they want come to a value, or trap.
use Rattle.std.proofs.Common.{◌≡◌, ◌^◌, refl, sym, ap, ◌∙◌, subst, ℤ, pos, negsuc, nat_lt}
use Rattle.std.proofs.Common.{nat_eq, Bool, true, false, if◌then◌else◌}
use Rattle.std.specs.Prelude.{⊤, ◌+ℤ◌, ◌-ℤ◌, ◌*ℤ◌, int_div, int_rem}
use Rattle.ae_tree.specs.declared.tree.Op.{Op}
use Rattle.ae_tree.specs.declared.tree.Op.TheVariants as op
use Rattle.ae_tree.specs.declared.form.Perm.{Perm}
use Rattle.ae_tree.specs.declared.form.Perm.TheVariants as perm
use Rattle.ae_tree.specs.declared.form.Kind.{Kind}
use Rattle.ae_tree.specs.declared.form.Form.{Form}
use Rattle.ae_tree.specs.declared.form.Form.TheVariants as f
use Rattle.ae_tree.specs.Plain.{Code}
use Rattle.ae_rules.specs.Forms.{same_value, is_object}
use Rattle.ae_rules.specs.Walks.{Place}
use Rattle.ae_rules.specs.Expressions.{Numbers, Truths, Equals, operands, result_form}
use Rattle.ae_semantics.specs.Values.{Val, OfInt, OfBool, Null, Owned, Member}
use Rattle.ae_semantics.specs.Values.{fits_object}
use Rattle.ae_semantics.specs.Places.{Outcome, Fine, Traps, Lacks, ◌>>=◌, PlaceFound, OpenedObject}
use Rattle.ae_semantics.specs.Expressions.{number, truth, fitted, unless_zero, same, calculated, applied}
use Rattle.ae_semantics.specs.Expressions.{unless_false, unless_true, both}
use Rattle.ae_soundness.specs.Fits.{IsOfForm, SameButPermission, FitsPlace}
use Rattle.ae_soundness.specs.Laws.{IsFoundAs, IsReachedAs, IsValueOf}

-- ---- one outcome after another

-- Where a value of a form goes on to one of another form.
pub then_value : (p : Code) (t u : Form) (o : Outcome Val) (go : Val → Outcome Val) → IsValueOf p t o
    → ((v : Val) → IsOfForm p t v → IsValueOf p u (go v)) → IsValueOf p u (o >>= go)
then_value p t u (Fine v) go k h = h v k
then_value p t u (Traps code) go k h = tt
then_value p t u Lacks go k h = absurd k

-- Where a place that is found goes on to a value.
pub then_place : (p : Code) (w : Place) (u : Form) (o : Outcome PlaceFound) (go : PlaceFound → Outcome Val)
    → IsFoundAs p w o → ((x : PlaceFound) → FitsPlace p w x.form x.value → IsValueOf p u (go x))
    → IsValueOf p u (o >>= go)
then_place p w u (Fine x) go k h = h x k
then_place p w u (Traps code) go k h = tt
then_place p w u Lacks go k h = absurd k

-- Where an object that is reached goes on to a value.
pub then_object : (p : Code) (k : Kind) (u : Form) (o : Outcome OpenedObject) (go : OpenedObject → Outcome Val)
    → IsReachedAs p k o → ((x : OpenedObject) → IsReachedAs p k (Fine x) → IsValueOf p u (go x))
    → IsValueOf p u (o >>= go)
then_object p k u (Fine x) go r h = h x r
then_object p k u (Traps code) go r h = tt
then_object p k u Lacks go r h = absurd r

-- ---- numbers and truths

-- A value of an integer's form is a number.
pub number_is : (p : Code) (v : Val) → IsOfForm p f.Int v → (n : ℤ) × (v ≡ OfInt n)
number_is p (OfInt n) i = (n, refl)
number_is p (OfBool b) i = absurd (cc (i.0))
number_is p Null i = absurd (cc (i.0))
number_is p (Owned t) i = absurd (cc (i.0))
number_is p (Member n) i = absurd (cc (i.0))

-- A value of a boolean's form is a truth.
pub truth_is : (p : Code) (v : Val) → IsOfForm p f.Bool v → (b : Bool) × (v ≡ OfBool b)
truth_is p (OfInt n) i = absurd (cc (i.0))
truth_is p (OfBool b) i = (b, refl)
truth_is p Null i = absurd (cc (i.0))
truth_is p (Owned t) i = absurd (cc (i.0))
truth_is p (Member n) i = absurd (cc (i.0))

-- Where a number goes on to a value.
pub then_number : (p : Code) (u : Form) (v : Val) (go : ℤ → Outcome Val) → IsOfForm p f.Int v
    → ((n : ℤ) → IsValueOf p u (go n)) → IsValueOf p u (number v >>= go)
then_number p u v go i h =
    let n = number_is p v i in
    subst (λ (x : Val). IsValueOf p u (number x >>= go)) (sym n.1) (h n.0)

-- Where a truth goes on to a value.
pub then_truth : (p : Code) (u : Form) (v : Val) (go : Bool → Outcome Val) → IsOfForm p f.Bool v
    → ((b : Bool) → IsValueOf p u (go b)) → IsValueOf p u (truth v >>= go)
then_truth p u v go i h =
    let b = truth_is p v i in
    subst (λ (x : Val). IsValueOf p u (truth x >>= go)) (sym b.1) (h b.0)

either : (p : Code) (t : Form) (b : Bool) (x y : Outcome Val) → IsValueOf p t x → IsValueOf p t y
    → IsValueOf p t (if b then x else y)
either p t true x y h k = h
either p t false x y h k = k

-- A number that fits is one, and another traps.
pub fitted_value : (p : Code) (z : ℤ) → IsValueOf p f.Int (fitted z)
fitted_value p (pos n) = either p f.Int (nat_lt n (2 ^ 63)) (Fine (OfInt (pos n))) (Traps 1) (refl, tt) tt
fitted_value p (negsuc n) = either p f.Int (nat_lt n (2 ^ 63)) (Fine (OfInt (negsuc n))) (Traps 1) (refl, tt) tt

unless_value : (p : Code) (z : ℤ) (o : Outcome Val) → IsValueOf p f.Int o → IsValueOf p f.Int (unless_zero z o)
unless_value p (pos n) o k = either p f.Int (nat_eq n 0) (Traps 2) o tt k
unless_value p (negsuc n) o k = k

calculated_value : (p : Code) (o : Op) → operands o ≡ Numbers → (x y : ℤ)
    → IsValueOf p (result_form o) (calculated o x y)
calculated_value p op.Or h x y = absurd (cc)
calculated_value p op.And h x y = absurd (cc)
calculated_value p op.Eq h x y = absurd (cc)
calculated_value p op.Ne h x y = absurd (cc)
calculated_value p op.Lt h x y = (refl, tt)
calculated_value p op.Le h x y = (refl, tt)
calculated_value p op.Gt h x y = (refl, tt)
calculated_value p op.Ge h x y = (refl, tt)
calculated_value p op.Add h x y = fitted_value p (x +ℤ y)
calculated_value p op.Sub h x y = fitted_value p (x -ℤ y)
calculated_value p op.Mul h x y = fitted_value p (x *ℤ y)
calculated_value p op.Div h x y = unless_value p y (fitted (int_div x y)) (fitted_value p (int_div x y))
calculated_value p op.Rem h x y = unless_value p y (Fine (OfInt (int_rem x y))) (refl, tt)

both_numbers : (o : Op) → operands o ≡ Numbers → (v : Val) (rest : ⊤ → Outcome Val) → both o v rest
    ≡ (rest tt >>= λ w. number v >>= λ x. number w >>= λ y. calculated o x y)
both_numbers op.Or h v rest = absurd (cc)
both_numbers op.And h v rest = absurd (cc)
both_numbers op.Eq h v rest = absurd (cc)
both_numbers op.Ne h v rest = absurd (cc)
both_numbers op.Lt h v rest = refl
both_numbers op.Le h v rest = refl
both_numbers op.Gt h v rest = refl
both_numbers op.Ge h v rest = refl
both_numbers op.Add h v rest = refl
both_numbers op.Sub h v rest = refl
both_numbers op.Mul h v rest = refl
both_numbers op.Div h v rest = refl
both_numbers op.Rem h v rest = refl

-- an operator on the outcomes of both its operands
abbrev pub operated : Op → Outcome Val → Outcome Val → Outcome Val
operated o a b = a >>= λ v. both o v (λ _. b)

-- An operator on numbers comes to a value of its form.
pub numbers_value : (p : Code) (o : Op) → operands o ≡ Numbers → (a b : Outcome Val) → IsValueOf p f.Int a
    → IsValueOf p f.Int b → IsValueOf p (result_form o) (operated o a b)
numbers_value p o e a b h k = then_value p f.Int (result_form o) a (λ v. both o v (λ _. b)) h
    (λ v i. subst (λ (x : Outcome Val). IsValueOf p (result_form o) x) (sym (both_numbers o e v (λ _. b)))
    (then_value p f.Int (result_form o) b _ k
    (λ w j. then_number p (result_form o) v _ i
    (λ x. then_number p (result_form o) w _ j (λ y. calculated_value p o e x y)))))

unless_false_value : (p : Code) (x : Bool) (b : Outcome Val) → IsValueOf p f.Bool b
    → IsValueOf p f.Bool (unless_false x (λ _. b))
unless_false_value p true b k = k
unless_false_value p false b k = (refl, tt)

unless_true_value : (p : Code) (x : Bool) (b : Outcome Val) → IsValueOf p f.Bool b
    → IsValueOf p f.Bool (unless_true x (λ _. b))
unless_true_value p true b k = (refl, tt)
unless_true_value p false b k = k

-- An operator on truths comes to a truth.
pub truths_value : (p : Code) (o : Op) → operands o ≡ Truths → (a b : Outcome Val) → IsValueOf p f.Bool a
    → IsValueOf p f.Bool b → IsValueOf p (result_form o) (operated o a b)
truths_value p op.Or e a b h k = then_value p f.Bool f.Bool a _ h
    (λ v i. then_truth p f.Bool v (λ x. unless_true x (λ _. b)) i (λ x. unless_true_value p x b k))
truths_value p op.And e a b h k = then_value p f.Bool f.Bool a _ h
    (λ v i. then_truth p f.Bool v (λ x. unless_false x (λ _. b)) i (λ x. unless_false_value p x b k))
truths_value p op.Eq e a b h k = absurd (cc)
truths_value p op.Ne e a b h k = absurd (cc)
truths_value p op.Lt e a b h k = absurd (cc)
truths_value p op.Le e a b h k = absurd (cc)
truths_value p op.Gt e a b h k = absurd (cc)
truths_value p op.Ge e a b h k = absurd (cc)
truths_value p op.Add e a b h k = absurd (cc)
truths_value p op.Sub e a b h k = absurd (cc)
truths_value p op.Mul e a b h k = absurd (cc)
truths_value p op.Div e a b h k = absurd (cc)
truths_value p op.Rem e a b h k = absurd (cc)

-- ---- equal or not

-- two values can be compared
abbrev AreComparable : Val → Val → Type 0
AreComparable v w = (b : Bool) × (same v w ≡ Fine b)

same_forms : (p : Code) (t : Form) → same_value t t ≡ true → (v w : Val) → IsOfForm p t v → IsOfForm p t w
    → AreComparable v w
same_forms p f.Int e v w i j =
    let m = number_is p v i in
    let n = number_is p w j in (_, ap (λ (x : Val). same x w) m.1 ∙ ap (λ (x : Val). same (OfInt m.0) x) n.1)
same_forms p f.Bool e v w i j =
    let m = truth_is p v i in
    let n = truth_is p w j in (_, ap (λ (x : Val). same x w) m.1 ∙ ap (λ (x : Val). same (OfBool m.0) x) n.1)
same_forms p (f.Object q k) e v w i j = absurd (cc)

-- a number or a truth is no value for an object's place
no_number_there : (p : Code) (q : Perm) (k : Kind) (n : ℤ) → fits_object p q k (OfInt n) ≡ true → ⊥
no_number_there p perm.Unique k n e = cc
no_number_there p perm.Immutable k n e = cc
no_number_there p perm.Lent k n e = cc
no_number_there p (perm.Shared g) k n e = cc

no_truth_there : (p : Code) (q : Perm) (k : Kind) (b : Bool) → fits_object p q k (OfBool b) ≡ true → ⊥
no_truth_there p perm.Unique k b e = cc
no_truth_there p perm.Immutable k b e = cc
no_truth_there p perm.Lent k b e = cc
no_truth_there p (perm.Shared g) k b e = cc

beside_object : (p : Code) (q : Perm) (k : Kind) (v : Val) → fits_object p q k v ≡ true
    → AreComparable Null v × AreComparable v Null
beside_object p q k (OfInt n) e = absurd (no_number_there p q k n e)
beside_object p q k (OfBool b) e = absurd (no_truth_there p q k b e)
beside_object p q k Null e = ((true, refl), (true, refl))
beside_object p q k (Owned t) e = ((false, refl), (false, refl))
beside_object p q k (Member n) e = ((false, refl), (false, refl))

-- what fits an object's place can be compared with null
beside_form : (p : Code) (t now : Form) (v : Val) → is_object t ≡ true → SameButPermission t now → IsOfForm p now v
    → AreComparable Null v × AreComparable v Null
beside_form p f.Int now v e s i = absurd (cc)
beside_form p f.Bool now v e s i = absurd (cc)
beside_form p (f.Object q k) f.Int v e s i = absurd s
beside_form p (f.Object q k) f.Bool v e s i = absurd s
beside_form p (f.Object q k) (f.Object r l) v e s i = beside_object p r l v i.0

-- a value can be compared with what there is
abbrev CanBeCompared : Val → Outcome Val → Type 0
CanBeCompared v (Fine w) = AreComparable v w
CanBeCompared v (Traps code) = Unit {0}
CanBeCompared v Lacks = ⊥

equal_value : (p : Code) (v : Val) (o : Outcome Val) → CanBeCompared v o → IsValueOf p f.Bool (o >>= applied op.Eq v)
equal_value p v (Fine w) c = rw c.1 (refl, tt)
equal_value p v (Traps code) c = tt
equal_value p v Lacks c = absurd c

unequal_value : (p : Code) (v : Val) (o : Outcome Val) → CanBeCompared v o
    → IsValueOf p f.Bool (o >>= applied op.Ne v)
unequal_value p v (Fine w) c = rw c.1 (refl, tt)
unequal_value p v (Traps code) c = tt
unequal_value p v Lacks c = absurd c

-- Values that can be compared are found equal or not.
pub compared_value : (p : Code) (o : Op) → operands o ≡ Equals → (v : Val) (b : Outcome Val) → CanBeCompared v b
    → IsValueOf p (result_form o) (both o v (λ _. b))
compared_value p op.Eq e v b c = equal_value p v b c
compared_value p op.Ne e v b c = unequal_value p v b c
compared_value p op.Or e v b c = absurd (cc e)
compared_value p op.And e v b c = absurd (cc e)
compared_value p op.Lt e v b c = absurd (cc e)
compared_value p op.Le e v b c = absurd (cc e)
compared_value p op.Gt e v b c = absurd (cc e)
compared_value p op.Ge e v b c = absurd (cc e)
compared_value p op.Add e v b c = absurd (cc e)
compared_value p op.Sub e v b c = absurd (cc e)
compared_value p op.Mul e v b c = absurd (cc e)
compared_value p op.Div e v b c = absurd (cc e)
compared_value p op.Rem e v b c = absurd (cc e)

-- A value can be compared with one of the same form, a number's or a truth's.
pub alike_compared : (p : Code) (t : Form) → same_value t t ≡ true → (v : Val) → IsOfForm p t v → (o : Outcome Val)
    → IsValueOf p t o → CanBeCompared v o
alike_compared p t e v i (Fine w) k = same_forms p t e v w i k
alike_compared p t e v i (Traps code) k = tt
alike_compared p t e v i Lacks k = absurd k

-- the value of a path
abbrev pub read_of : Outcome PlaceFound → Outcome Val
read_of o = o >>= λ x. Fine x.value

-- `null` can be compared with what stands at an object's place.
pub null_compared : (p : Code) (w : Place) → is_object w.form ≡ true → (o : Outcome PlaceFound) → IsFoundAs p w o
    → CanBeCompared Null (read_of o)
null_compared p w e (Fine x) h = (beside_form p w.form x.form x.value e h.form h.value).0
null_compared p w e (Traps code) h = tt
null_compared p w e Lacks h = absurd h

-- What stands at an object's place can be compared with `null`.
pub compared_null : (p : Code) (o : Op) → operands o ≡ Equals → (w : Place) → is_object w.form ≡ true
    → (r : Outcome PlaceFound) → IsFoundAs p w r → IsValueOf p (result_form o) (operated o (read_of r) (Fine Null))
compared_null p o d w e (Fine x) h = compared_value p o d x.value (Fine Null)
    (beside_form p w.form x.form x.value e h.form h.value).1
compared_null p o d w e (Traps code) h = tt
compared_null p o d w e Lacks h = absurd h
