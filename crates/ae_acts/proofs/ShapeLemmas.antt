-- Facts on the names of a call: what is free, and in which form a local was declared.
use Rattle.std.proofs.Common.{◌≡◌, ◌∙◌, refl, sym, ap, ℕ, nat_eq, Bool, true, false, List, [], ◌∷◌, Option, None, Some}
use Rattle.std.specs.Prelude.{option_map, if◌then◌else◌}
use Rattle.ae_tree.specs.declared.form.Perm.{Perm}
use Rattle.ae_tree.specs.declared.form.Form.{Form}
use Rattle.ae_tree.specs.declared.form.Form.TheVariants as f
use Rattle.ae_rules.specs.Verdict.{given}
use Rattle.ae_semantics.specs.Meaning.{with_perm}
use Rattle.ae_values.specs.declared.env.Bind.{Bind}
use Rattle.ae_values.specs.declared.env.Bound.{Bound}
use Rattle.ae_values.specs.declared.env.Bound.TheVariants as bound
use Rattle.ae_values.specs.Binding.{bound_in, heads, declared_as}
use Rattle.ae_values.specs.Shapes.{NameShape, name_shape, shapes, shape_in}
use Rattle.ae_names.specs.Known.{form_in, local_form}
use Rattle.ae_acts.specs.Doing.{without_kind, form_held}

-- a shape, by what is bound and the permission with which the name was declared
abbrev pub shape_by : Option Bound → Option Perm → Option NameShape
shape_by None q = None
shape_by (Some b) None = None
shape_by (Some b) (Some q) = Some (name_shape q b)

-- a name has the shape of what is bound to it
pub shape_found : (bs : List Bind) (x : ℕ)
    → shape_in (shapes bs) x ≡ shape_by (bound_in bs x) (declared_as (heads bs) x)
shape_found [] x = refl
shape_found (b ∷ bs) x = by_test (nat_eq b.name x) (shape_found bs x)
  where
    by_test : (t : Bool) → shape_in (shapes bs) x ≡ shape_by (bound_in bs x) (declared_as (heads bs) x)
        → (if t then Some (name_shape b.declared b.bound) else shape_in (shapes bs) x)
        ≡ shape_by (if t then Some b.bound else bound_in bs x) (if t then Some b.declared else declared_as (heads bs) x)
    by_test true h = refl
    by_test false h = h

-- a name to which nothing is bound has no shape
pub unbound_is_free : (bs : List Bind) (x : ℕ) → bound_in bs x ≡ None → shape_in (shapes bs) x ≡ None
unbound_is_free bs x none = shape_found bs x ∙ ap (λ o. shape_by o (declared_as (heads bs) x)) none

-- the declared form, by what is bound and the permission with which the name was declared
abbrev pub form_by : Option Bound → Option Perm → Option Form
form_by None q = None
form_by (Some b) q = given (option_map without_kind (form_held b)) None (λ form. option_map (λ r. with_perm r form) q)

without_kind_permitted : (q : Perm) (form : Form) → without_kind (with_perm q form) ≡ with_perm q (without_kind form)
without_kind_permitted q f.Int = refl
without_kind_permitted q f.Bool = refl
without_kind_permitted q (f.Object r k) = refl

-- the form in which a local was declared, as far as its kind does not count
pub form_found : (bs : List Bind) (x : ℕ)
    → option_map without_kind (form_in (shapes bs) x) ≡ form_by (bound_in bs x) (declared_as (heads bs) x)
form_found bs x = ap (λ s. option_map without_kind (given s None local_form)) (shape_found bs x)
    ∙ by_cases (bound_in bs x) (declared_as (heads bs) x)
  where
    by_cases : (b : Option Bound) (q : Option Perm)
        → option_map without_kind (given (shape_by b q) None local_form) ≡ form_by b q
    by_cases None q = refl
    by_cases (Some (bound.Value form v)) None = refl
    by_cases (Some (bound.Moved form)) None = refl
    by_cases (Some (bound.Whole image)) None = refl
    by_cases (Some (bound.Other g)) None = refl
    by_cases (Some (bound.Cell n)) None = refl
    by_cases (Some (bound.Pieces ps)) None = refl
    by_cases (Some (bound.Value form v)) (Some q) = ap Some (without_kind_permitted q form)
    by_cases (Some (bound.Moved form)) (Some q) = ap Some (without_kind_permitted q form)
    by_cases (Some (bound.Whole image)) (Some q) = refl
    by_cases (Some (bound.Other g)) (Some q) = refl
    by_cases (Some (bound.Cell n)) (Some q) = refl
    by_cases (Some (bound.Pieces ps)) (Some q) = refl

form_known : (bs : List Bind) (x : ℕ) (b : Option Bound) (q : Option Perm) → b ≡ bound_in bs x
    → q ≡ declared_as (heads bs) x → form_by b q ≡ option_map without_kind (form_in (shapes bs) x)
form_known bs x b q is declared = ap (λ o. form_by o q) is ∙ ap (form_by (bound_in bs x)) declared
    ∙ sym (form_found bs x)

-- a local that was declared with a permission
pub form_there : (bs : List Bind) (x : ℕ) (b : Bound) (q : Perm) (w : Form) → Some b ≡ bound_in bs x
    → Some w ≡ option_map without_kind (form_held b) → Some q ≡ declared_as (heads bs) x
    → Some (with_perm q w) ≡ option_map without_kind (form_in (shapes bs) x)
form_there bs x b q w is held declared = ap (λ (o : Option Form). given o None (λ t. Some (with_perm q t))) held
    ∙ form_known bs x (Some b) (Some q) is declared

-- what was not declared
pub form_undeclared : (bs : List Bind) (x : ℕ) (b : Bound) → Some b ≡ bound_in bs x
    → None ≡ declared_as (heads bs) x → None ≡ option_map without_kind (form_in (shapes bs) x)
form_undeclared bs x b is declared = by_cases (option_map without_kind (form_held b))
    ∙ form_known bs x (Some b) None is declared
  where
    by_cases : (o : Option Form)
        → None ≡ given o None (λ (form : Form). option_map (λ (r : Perm). with_perm r form) None)
    by_cases None = refl
    by_cases (Some form) = refl

-- what is no local
pub form_of_group : (bs : List Bind) (x : ℕ) (b : Bound) → Some b ≡ bound_in bs x
    → None ≡ option_map without_kind (form_held b) → None ≡ option_map without_kind (form_in (shapes bs) x)
form_of_group bs x b is held =
    ap (λ (o : Option Form). given o None
    (λ t. option_map (λ (r : Perm). with_perm r t) (declared_as (heads bs) x))) held
    ∙ form_known bs x (Some b) (declared_as (heads bs) x) is refl

-- what is not bound
pub form_unbound : (bs : List Bind) (x : ℕ) → None ≡ bound_in bs x
    → None ≡ option_map without_kind (form_in (shapes bs) x)
form_unbound bs x is = form_known bs x None (declared_as (heads bs) x) is refl
