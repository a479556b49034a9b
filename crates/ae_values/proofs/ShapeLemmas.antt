-- Facts on shapes: what is changed under a name stays a local of its declared form, or a group.
use Rattle.std.proofs.Common.{◌≡◌, ℕ, nat_eq, Bool, true, false, List, [], ◌∷◌, Option, None, Some, slice_get, drop}
use Rattle.std.proofs.Common.{option_map, refl, sym, ap, ◌∙◌}
use Rattle.std.specs.Prelude.{if◌then◌else◌}
use Rattle.std.proofs.lemmas.Bool.{eqb-true}
use Rattle.std.proofs.lemmas.Option.{none-some, same_Some}
use Rattle.ae_values.proofs.from_text.Basics.{number_is_itself}
use Rattle.ae_tree.specs.declared.form.Perm.{Perm}
use Rattle.ae_tree.specs.declared.form.Form.{Form}
use Rattle.ae_tree.specs.declared.form.Form.TheVariants as of_form
use Rattle.ae_semantics.specs.Values as meant
use Rattle.ae_semantics.specs.Values.{Store}
use Rattle.ae_semantics.specs.Places.{with}
use Rattle.ae_semantics.specs.Meaning.{with_perm}
use Rattle.ae_values.specs.declared.env.Env.{Env}
use Rattle.ae_values.specs.declared.env.Bind.{Bind}
use Rattle.ae_values.specs.declared.value.Val.{Val}
use Rattle.ae_values.specs.declared.env.Bound.{Bound}
use Rattle.ae_values.specs.declared.env.Bound.TheVariants as bound
use Rattle.ae_values.specs.declared.env.Image.TheVariants as image
use Rattle.ae_values.specs.Binding.{bound_in, bound_once, heads, emptied, reassigned, permitted, with_members, IsChanged}
use Rattle.ae_values.specs.Environments.{bound_under, running_binds}
use Rattle.ae_values.specs.Shapes.{OfLocal, name_shape, shapes}
use Rattle.ae_values.proofs.BindLemmas.{first_is_alone, others_once}

first_same : {A : Type 0} (x y : A) (xs ys : List A) → x ∷ xs ≡ y ∷ ys → x ≡ y
first_same x y xs ys same = same_Some x y (ap (λ zs. slice_get zs 0) same)

rest_same : {A : Type 0} (x y : A) (xs ys : List A) → x ∷ xs ≡ y ∷ ys → xs ≡ ys
rest_same x y xs ys same = ap (drop 1) same

first_bound : (c : Bind) (cs : List Bind) (y : ℕ) → c.name ≡ y → bound_in (c ∷ cs) y ≡ Some c.bound
first_bound c cs y same = ap (λ t. if t then Some c.bound else bound_in cs y)
    (ap (λ m. nat_eq m y) same ∙ number_is_itself y)

-- where the names and permissions are the same, and what is bound has the same shapes, so have all names in order
shapes_alike : (bs cs : List Bind) → bound_once bs ≡ true → bound_once cs ≡ true → heads cs ≡ heads bs
    → ((y : ℕ) (q : Perm) → option_map (name_shape q) (bound_in cs y) ≡ option_map (name_shape q) (bound_in bs y))
    → shapes cs ≡ shapes bs
shapes_alike [] [] once anew same alike = refl
shapes_alike [] (c ∷ cs) once anew same alike =
    absurd (none-some (c.name, c.declared) (sym (ap (λ hs. slice_get hs 0) same)))
shapes_alike (b ∷ bs) [] once anew same alike =
    absurd (none-some (b.name, b.declared) (ap (λ hs. slice_get hs 0) same))
shapes_alike (b ∷ bs) (c ∷ cs) once anew same alike =
    let head : (c.name, c.declared) ≡ (b.name, b.declared) =
    first_same (c.name, c.declared) (b.name, b.declared) (heads cs) (heads bs) same in
    let name : c.name ≡ b.name = ap (λ (h : ℕ × Perm). h.0) head in
    let declared : c.declared ≡ b.declared = ap (λ (h : ℕ × Perm). h.1) head in
    let shape : name_shape c.declared c.bound ≡ name_shape b.declared b.bound =
    ap (λ q. name_shape q c.bound) declared
    ∙ same_Some (name_shape b.declared c.bound) (name_shape b.declared b.bound)
    (ap (option_map (name_shape b.declared)) (sym (first_bound c cs b.name name))
    ∙ alike b.name b.declared
    ∙ ap (option_map (name_shape b.declared)) (first_bound b bs b.name refl)) in
    ap (λ n. (n, name_shape c.declared c.bound) ∷ shapes cs) name
    ∙ ap (λ s. (b.name, s) ∷ shapes cs) shape
    ∙ ap (λ ss. (b.name, name_shape b.declared b.bound) ∷ ss)
    (shapes_alike bs cs (others_once b bs once) (others_once c cs anew)
    (rest_same (c.name, c.declared) (b.name, b.declared) (heads cs) (heads bs) same)
    (λ y q. by_test y q name (alike y q) (nat_eq b.name y) refl))
  where
    by_test : (y : ℕ) (q : Perm) → c.name ≡ b.name
        → option_map (name_shape q) (bound_in (c ∷ cs) y) ≡ option_map (name_shape q) (bound_in (b ∷ bs) y)
        → (t : Bool) → nat_eq b.name y ≡ t
        → option_map (name_shape q) (bound_in cs y) ≡ option_map (name_shape q) (bound_in bs y)
    by_test y q name like true is =
        let own : b.name ≡ y = eqb-true b.name y is in
        ap (option_map (name_shape q)) (ap (bound_in cs) (sym (name ∙ own)) ∙ first_is_alone c cs anew
        ∙ sym (ap (bound_in bs) (sym own) ∙ first_is_alone b bs once))
    by_test y q name like false is =
        ap (λ t. option_map (name_shape q) (if t then Some c.bound else bound_in cs y))
        (sym (ap (λ m. nat_eq m y) name ∙ is))
        ∙ like
        ∙ ap (λ t. option_map (name_shape q) (if t then Some b.bound else bound_in bs y)) is

-- where one name is bound to something of the same shape, all shapes stay
pub shapes_stay : (e f : Env) (x : ℕ) (o : Option Bound) → heads (running_binds f) ≡ heads (running_binds e)
    → bound_under f ≡ with x o (bound_under e)
    → ((q : Perm) → option_map (name_shape q) o ≡ option_map (name_shape q) (bound_under e x))
    → shapes (running_binds f) ≡ shapes (running_binds e)
shapes_stay e f x o stay same alike = shapes_alike (running_binds e) (running_binds f) e.once f.once stay
    (λ y q. ap (λ (g : ℕ → Option Bound). option_map (name_shape q) (g y)) same ∙ by_test y q (nat_eq x y) refl)
  where
    by_test : (y : ℕ) (q : Perm) (t : Bool) → nat_eq x y ≡ t
        → option_map (name_shape q) (if t then o else bound_under e y) ≡ option_map (name_shape q) (bound_under e y)
    by_test y q true is = alike q ∙ ap (λ z. option_map (name_shape q) (bound_under e z)) (eqb-true x y is)
    by_test y q false is = refl

-- where what is bound is changed so that its shape stays
pub shapes_changed : (e f : Env) (x : ℕ) (change : Bound → Bound) → heads (running_binds f) ≡ heads (running_binds e)
    → bound_under f ≡ with x (option_map change (bound_under e x)) (bound_under e)
    → ((q : Perm) (b : Bound) → name_shape q (change b) ≡ name_shape q b)
    → shapes (running_binds f) ≡ shapes (running_binds e)
shapes_changed e f x change stay same keeps =
    shapes_stay e f x (option_map change (bound_under e x)) stay same (λ q. over q (bound_under e x))
  where
    over : (q : Perm) (o : Option Bound) → option_map (name_shape q) (option_map change o) ≡ option_map (name_shape q) o
    over q None = refl
    over q (Some b) = ap Some (keeps q b)

-- where another thing of the same shape is bound
pub shapes_put : (e f : Env) (x : ℕ) (a b : Bound) → heads (running_binds f) ≡ heads (running_binds e) → bound_under e x ≡ Some b
    → bound_under f ≡ with x (Some a) (bound_under e) → ((q : Perm) → name_shape q a ≡ name_shape q b)
    → shapes (running_binds f) ≡ shapes (running_binds e)
shapes_put e f x a b stay there same keeps = shapes_stay e f x (Some a) stay same
    (λ q. ap Some (keeps q) ∙ sym (ap (option_map (name_shape q)) there))

-- where the same is bound
pub shapes_same : (e f : Env) → heads (running_binds f) ≡ heads (running_binds e) → bound_under f ≡ bound_under e
    → shapes (running_binds f) ≡ shapes (running_binds e)
shapes_same e f stay same = shapes_alike (running_binds e) (running_binds f) e.once f.once stay
    (λ y q. ap (λ (g : ℕ → Option Bound). option_map (name_shape q) (g y)) same)

-- ---- changes that keep the shape

-- a permission in place of another one
pub perm_twice : (p q : Perm) (form : Form) → with_perm p (with_perm q form) ≡ with_perm p form
perm_twice p q of_form.Int = refl
perm_twice p q of_form.Bool = refl
perm_twice p q (of_form.Object r k) = refl

pub emptied_shape : (q : Perm) (b : Bound) → name_shape q (emptied b) ≡ name_shape q b
emptied_shape q (bound.Value form v) = refl
emptied_shape q (bound.Moved form) = refl
emptied_shape q (bound.Whole i) = refl
emptied_shape q (bound.Other g) = refl
emptied_shape q (bound.Cell n) = refl
emptied_shape q (bound.Pieces ps) = refl

pub assigned_shape : (p : Perm) (v : Val) (q : Perm) (b : Bound) → name_shape q (reassigned p v b) ≡ name_shape q b
assigned_shape p v q (bound.Value form w) = ap OfLocal (perm_twice q p form)
assigned_shape p v q (bound.Moved form) = ap OfLocal (perm_twice q p form)
assigned_shape p v q (bound.Whole i) = refl
assigned_shape p v q (bound.Other g) = refl
assigned_shape p v q (bound.Cell n) = refl
assigned_shape p v q (bound.Pieces ps) = refl

pub permitted_shape : (p q : Perm) (b : Bound) → name_shape q (permitted p b) ≡ name_shape q b
permitted_shape p q (bound.Value form w) = ap OfLocal (perm_twice q p form)
permitted_shape p q (bound.Moved form) = refl
permitted_shape p q (bound.Whole i) = refl
permitted_shape p q (bound.Other g) = refl
permitted_shape p q (bound.Cell n) = refl
permitted_shape p q (bound.Pieces ps) = refl

pub members_shape : (change : Store → Store) (q : Perm) (b : Bound) → name_shape q (with_members change b) ≡ name_shape q b
members_shape change q (bound.Value form w) = refl
members_shape change q (bound.Moved form) = refl
members_shape change q (bound.Whole (image.Store st)) = refl
members_shape change q (bound.Whole (image.Log ps)) = refl
members_shape change q (bound.Other g) = refl
members_shape change q (bound.Cell n) = refl
members_shape change q (bound.Pieces ps) = refl

pub changed_shape : (change : meant.Val → meant.Val) (b a : Bound) → IsChanged change b a → (q : Perm)
    → name_shape q a ≡ name_shape q b
changed_shape change (bound.Value form v) a is q = ap (name_shape q) is.2
changed_shape change (bound.Moved form) a is q = ap (name_shape q) is
changed_shape change (bound.Whole i) a is q = ap (name_shape q) is
changed_shape change (bound.Other g) a is q = ap (name_shape q) is
changed_shape change (bound.Cell n) a is q = ap (name_shape q) is
changed_shape change (bound.Pieces ps) a is q = ap (name_shape q) is
