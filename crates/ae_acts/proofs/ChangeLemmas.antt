-- Facts on states in which one local changed, as they are seen in environments.
use Rattle.std.proofs.Common.{◌≡◌, ◌∙◌, refl, sym, ap, ℕ, Option, None, Some}
use Rattle.std.specs.Prelude.{option_map}
use Rattle.std.proofs.lemmas.Option.{none-some}
use Rattle.ae_tree.specs.declared.form.Perm.{Perm}
use Rattle.ae_tree.specs.declared.form.Form.{Form}
use Rattle.ae_rules.specs.Verdict.{given}
use Rattle.ae_semantics.specs.Values as meant_value
use Rattle.ae_semantics.specs.Places as meant
use Rattle.ae_semantics.specs.Places.{Outcome, Fine, ◌>>=◌, there, State, with, with_bound, low, bind}
use Rattle.ae_semantics.specs.Meaning.{with_perm}
use Rattle.ae_values.specs.declared.env.Env.{Env}
use Rattle.ae_values.specs.declared.env.Bound.{Bound}
use Rattle.ae_values.specs.declared.env.Bound.TheVariants as bound
use Rattle.ae_values.specs.declared.env.Image.TheVariants as image
use Rattle.ae_values.specs.declared.value.Val.{Val}
use Rattle.ae_values.specs.Binding.{heads, declared_as, emptied, reassigned, permitted}
use Rattle.ae_values.specs.Environments.{state_in, local_bound, group_bound, locals_in, groups_in, bound_under}
use Rattle.ae_values.specs.Environments.{running_binds}
use Rattle.ae_values.specs.Shapes.{shapes}
use Rattle.ae_values.specs.Shown.{shown}
use Rattle.ae_reads.specs.Answers.{one_name}
use Rattle.ae_names.specs.Known.{form_in, local_form}
use Rattle.ae_acts.specs.Doing.{without_kind, assigned_to}
use Rattle.ae_acts.proofs.from_values.BindLemmas.{one_name_changes, locals_change, with_itself}
use Rattle.ae_acts.proofs.ShapeLemmas.{shape_by, shape_found}

abbrev seen_of : Option meant_value.Val → (ℕ → Option Bound) → State
seen_of r binds = record { locals = locals_in binds; groups = groups_in one_name binds; result = r }

-- the local that there is after a change
abbrev local_after : (Bound → Bound) → Option Bound → Option meant.Bound
local_after change o = given (option_map change o) None local_bound

-- what changes under one name so that no group changes, changes the local there
pub local_changed : (r : Option meant_value.Val) (e g : Env) (x : ℕ) (change : Bound → Bound)
    → bound_under g ≡ with x (option_map change (bound_under e x)) (bound_under e)
    → ((b : Bound) → group_bound one_name (change b) ≡ group_bound one_name b)
    → state_in one_name r g ≡ with_bound x (local_after change (bound_under e x)) (state_in one_name r e)
local_changed r e g x change same stays =
    let b : Option Bound = option_map change (bound_under e x) in
    ap (seen_of r) same
    ∙ ap (λ ls. record { locals = ls; groups = groups_in one_name (with x b (bound_under e)); result = r })
    (one_name_changes x b (bound_under e)).locals
    ∙ ap (λ gs.
    record { locals = with x (given b None local_bound) (locals_in (bound_under e)); groups = gs; result = r })
    ((one_name_changes x b (bound_under e)).groups one_name
    ∙ ap (λ c. with x c (groups_in one_name (bound_under e))) (by_cases (bound_under e x))
    ∙ with_itself x (groups_in one_name (bound_under e) x) (groups_in one_name (bound_under e)) refl)
  where
    by_cases : (o : Option Bound)
        → given (option_map change o) None (group_bound one_name) ≡ given o None (group_bound one_name)
    by_cases None = refl
    by_cases (Some b) = stays b

-- ---- a value taken out

emptied_group : (b : Bound) → group_bound one_name (emptied b) ≡ group_bound one_name b
emptied_group (bound.Value form v) = refl
emptied_group (bound.Moved form) = refl
emptied_group (bound.Whole i) = refl
emptied_group (bound.Other g) = refl
emptied_group (bound.Cell n) = refl
emptied_group (bound.Pieces ps) = refl

emptied_local : (o : Option Bound) → local_after emptied o ≡ None
emptied_local None = refl
emptied_local (Some (bound.Value form v)) = refl
emptied_local (Some (bound.Moved form)) = refl
emptied_local (Some (bound.Whole (image.Store st))) = refl
emptied_local (Some (bound.Whole (image.Log ps))) = refl
emptied_local (Some (bound.Other g)) = refl
emptied_local (Some (bound.Cell n)) = refl
emptied_local (Some (bound.Pieces ps)) = refl

-- a local whose value is taken out has none
pub local_emptied : (r : Option meant_value.Val) (e g : Env) (x : ℕ)
    → bound_under g ≡ with x (option_map emptied (bound_under e x)) (bound_under e)
    → state_in one_name r g ≡ with_bound x None (state_in one_name r e)
local_emptied r e g x same = local_changed r e g x emptied same emptied_group
    ∙ ap (λ b. with_bound x b (state_in one_name r e)) (emptied_local (bound_under e x))

-- ---- a value assigned

reassigned_group : (q : Perm) (v : Val) (b : Bound) → group_bound one_name (reassigned q v b) ≡ group_bound one_name b
reassigned_group q v (bound.Value form w) = refl
reassigned_group q v (bound.Moved form) = refl
reassigned_group q v (bound.Whole i) = refl
reassigned_group q v (bound.Other g) = refl
reassigned_group q v (bound.Cell n) = refl
reassigned_group q v (bound.Pieces ps) = refl

-- what is assigned stands in the declared form
reassigned_local : (q : Perm) (v : Val) (form : Form) (o : Option Bound)
    → given (shape_by o (Some q)) None local_form ≡ Some form
    → local_after (reassigned q v) o ≡ Some (record { form = form; value = shown v })
reassigned_local q v form None is = absurd (none-some form is)
reassigned_local q v form (Some (bound.Value old w)) is =
    ap (λ (o : Option Form). option_map (λ (t : Form). record { form = t; value = shown v }) o) is
reassigned_local q v form (Some (bound.Moved old)) is =
    ap (λ (o : Option Form). option_map (λ (t : Form). record { form = t; value = shown v }) o) is
reassigned_local q v form (Some (bound.Whole i)) is = absurd (none-some form is)
reassigned_local q v form (Some (bound.Other g)) is = absurd (none-some form is)
reassigned_local q v form (Some (bound.Cell n)) is = absurd (none-some form is)
reassigned_local q v form (Some (bound.Pieces ps)) is = absurd (none-some form is)

no_form : (o : Option Bound) (form : Form) → given (shape_by o None) None local_form ≡ Some form → ⊥
no_form None form is = none-some form is
no_form (Some b) form is = none-some form is

-- a value that is assigned is that of the local, in the form in which it was declared
pub local_assigned : (r : Option meant_value.Val) (e g : Env) (x : ℕ) (v : Val) (form : Form)
    → form_in (shapes (running_binds e)) x ≡ Some form
    → ((q : Perm) → declared_as (heads (running_binds e)) x ≡ Some q
    → bound_under g ≡ with x (option_map (reassigned q v) (bound_under e x)) (bound_under e))
    → state_in one_name r g ≡ with_bound x (Some (record { form = form; value = shown v })) (state_in one_name r e)
local_assigned r e g x v form is after = by_perm (declared_as (heads (running_binds e)) x)
    (ap (λ s. given s None local_form) (sym (shape_found (running_binds e) x)) ∙ is) after
  where
    by_perm : (o : Option Perm) → given (shape_by (bound_under e x) o) None local_form ≡ Some form
        → ((q : Perm) → o ≡ Some q
        → bound_under g ≡ with x (option_map (reassigned q v) (bound_under e x)) (bound_under e))
        → state_in one_name r g ≡ with_bound x (Some (record { form = form; value = shown v })) (state_in one_name r e)
    by_perm None at next = absurd (no_form (bound_under e x) form at)
    by_perm (Some q) at next = local_changed r e g x (reassigned q v) (next q refl) (reassigned_group q v)
        ∙ ap (λ b. with_bound x b (state_in one_name r e)) (reassigned_local q v form (bound_under e x) at)

-- ---- another permission

-- a local with another permission
abbrev pub permitted_local : Perm → meant.Bound → meant.Bound
permitted_local q b = record { form = with_perm q b.form; value = b.value }

permitted_group : (q : Perm) (b : Bound) → group_bound one_name (permitted q b) ≡ group_bound one_name b
permitted_group q (bound.Value form v) = refl
permitted_group q (bound.Moved form) = refl
permitted_group q (bound.Whole i) = refl
permitted_group q (bound.Other g) = refl
permitted_group q (bound.Cell n) = refl
permitted_group q (bound.Pieces ps) = refl

permitted_after : (q : Perm) (o : Option Bound)
    → local_after (permitted q) o ≡ option_map (permitted_local q) (given o None local_bound)
permitted_after q None = refl
permitted_after q (Some (bound.Value form v)) = refl
permitted_after q (Some (bound.Moved form)) = refl
permitted_after q (Some (bound.Whole i)) = refl
permitted_after q (Some (bound.Other g)) = refl
permitted_after q (Some (bound.Cell n)) = refl
permitted_after q (Some (bound.Pieces ps)) = refl

-- a local that gets another permission has its value in a form with that permission
pub local_permitted : (r : Option meant_value.Val) (e g : Env) (x : ℕ) (q : Perm)
    → bound_under g ≡ with x (option_map (permitted q) (bound_under e x)) (bound_under e)
    → state_in one_name r g
    ≡ with_bound x (option_map (permitted_local q) ((state_in one_name r e).locals x)) (state_in one_name r e)
local_permitted r e g x q same = local_changed r e g x (permitted q) same (permitted_group q)
    ∙ ap (λ b. with_bound x b (state_in one_name r e)) (permitted_after q (bound_under e x))

-- ---- a local declared, and one that gets a value

-- a new local is declared with a value that is low enough
pub local_declared : (r : Option meant_value.Val) (e g : Env) (x : ℕ) (v : Val) (form : Form)
    → bound_under e x ≡ None → low (shown v) ≡ Fine (shown v)
    → bound_under g ≡ with x (Some (bound.Value form v)) (bound_under e)
    → bind x form (shown v) (state_in one_name r e) ≡ Fine (state_in one_name r g)
local_declared r e g x v form free is_low same =
    ap (λ (o : Outcome meant_value.Val). o >>= λ w.
    Fine (with_bound x (Some (record { form = form; value = w })) (state_in one_name r e))) is_low
    ∙ ap Fine (sym (locals_change one_name r e g x (Some (bound.Value form v)) same
    (ap (λ (o : Option Bound). given o None (group_bound one_name)) free) refl))

-- a local gets a value that is low enough
pub local_gets : (r : Option meant_value.Val) (e g : Env) (x : ℕ) (v : Val) (w : Form)
    → Some w ≡ option_map without_kind (form_in (shapes (running_binds e)) x) → low (shown v) ≡ Fine (shown v)
    → ((q : Perm) → declared_as (heads (running_binds e)) x ≡ Some q
    → bound_under g ≡ with x (option_map (reassigned q v) (bound_under e x)) (bound_under e))
    → assigned_to (form_in (shapes (running_binds e))) x (shown v) (state_in one_name r e)
    ≡ Fine (state_in one_name r g)
local_gets r e g x v w known is_low after =
    by_cases (form_in (shapes (running_binds e)) x) known (λ form is. local_assigned r e g x v form is after)
  where
    by_cases : (o : Option Form) → Some w ≡ option_map without_kind o
        → ((form : Form) → o ≡ Some form → state_in one_name r g
        ≡ with_bound x (Some (record { form = form; value = shown v })) (state_in one_name r e))
        → (there o >>= λ form. bind x form (shown v) (state_in one_name r e)) ≡ Fine (state_in one_name r g)
    by_cases None is next = absurd (none-some w (sym is))
    by_cases (Some form) is next = ap (λ (o : Outcome meant_value.Val). o >>= λ y.
        Fine (with_bound x (Some (record { form = form; value = y })) (state_in one_name r e))) is_low
        ∙ ap Fine (sym (next form refl))
