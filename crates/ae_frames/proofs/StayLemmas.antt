-- Where the names of a body have the shapes with which it began, the groups that were needed stay.
use Rattle.std.proofs.Common.{◌≡◌, ◌∙◌, ℕ, nat_eq, Bool, true, false, ◌||◌, List, [], ◌∷◌, ◌++◌, map, Option, None}
use Rattle.std.proofs.Common.{Some, refl}
use Rattle.std.proofs.Common.{ap, sym, subst}
use Rattle.std.specs.Prelude.{if◌then◌else◌, zip, filter_map, option_map}
use Rattle.std.specs.List.{cons_option}
use Rattle.std.proofs.lemmas.Bool.{eqb-true}
use Rattle.std.proofs.lemmas.Option.{none-some}
use Rattle.ae_tree.specs.declared.form.Perm.{Perm}
use Rattle.ae_tree.specs.declared.tree.GroupNeed.{GroupNeed}
use Rattle.ae_tree.specs.Plain.{Code}
use Rattle.ae_rules.specs.Verdict.{given}
use Rattle.ae_rules.specs.Lookups.{has_name}
use Rattle.ae_rules.specs.Calls.{Callee}
use Rattle.ae_rules.specs.Instances.{param_names}
use Rattle.ae_semantics.specs.Places.{Group, Here, Away, As, State}
use Rattle.ae_semantics.specs.Calls.{Argument, Taker, takers, group_given}
use Rattle.ae_values.specs.declared.env.Bind.{Bind}
use Rattle.ae_values.specs.declared.env.Bound.{Bound}
use Rattle.ae_values.specs.declared.env.Bound.TheVariants as bound
use Rattle.ae_values.specs.declared.env.Image.TheVariants as image
use Rattle.ae_values.specs.Binding.{bound_in}
use Rattle.ae_values.specs.Environments.{group_bound, running_binds}
use Rattle.ae_values.specs.Shapes.{NameShape, OfGroup, name_shape, shapes, shape_in}
use Rattle.ae_reads.specs.Answers.{one_name}
use Rattle.ae_frames.specs.Entries.{EnteredCall, entered_call, names_apart, need_names, group_shape, param_shape, need_shape}
use Rattle.ae_frames.specs.Entries.{names_entered}
use Rattle.ae_frames.specs.Leaving.{is_another, IsKeptAs, NeededGroupsStay}
use Rattle.ae_frames.proofs.from_text.Basics.{first_of_neither, second_of_neither}
use Rattle.ae_frames.proofs.NameLemmas.{rest_are_others}
use Rattle.ae_frames.proofs.TakerLemmas.{takers_are_named}
use Rattle.ae_frames.proofs.EnteredLemmas.{was_entered}

-- what is bound has this shape, or nothing is bound
abbrev IsShaped : Option NameShape → Option Bound → Type 0
IsShaped None o = o ≡ None
IsShaped (Some x) o = (b : Bound) × (q : Perm) × (o ≡ Some b) × (name_shape q b ≡ x)

shape_of_bound : (bs : List Bind) (g : ℕ) → IsShaped (shape_in (shapes bs) g) (bound_in bs g)
shape_of_bound [] g = refl
shape_of_bound (b ∷ bs) g = by_test (nat_eq b.name g) (shape_of_bound bs g)
  where
    by_test : (t : Bool) → IsShaped (shape_in (shapes bs) g) (bound_in bs g)
        → IsShaped (if t then Some (name_shape b.declared b.bound) else shape_in (shapes bs) g)
        (if t then Some b.bound else bound_in bs g)
    by_test true later = (b.bound, b.declared, refl, refl)
    by_test false later = later

-- the names of parameters go before others
behind_params : (ts : List Taker) (xs : List Argument) (ys : List (ℕ × NameShape)) (g : ℕ)
    → has_name (map (λ (t : Taker). t.0) ts) g ≡ false
    → shape_in (map param_shape (zip ts xs) ++ ys) g ≡ shape_in ys g
behind_params [] xs ys g other = refl
behind_params (t ∷ ts) [] ys g other = refl
behind_params (t ∷ ts) (x ∷ xs) ys g other =
    ap (λ (u : Bool). if u then Some (param_shape (t, x)).1 else shape_in (map param_shape (zip ts xs) ++ ys) g)
    (first_of_neither (nat_eq t.0 g) (has_name (map (λ (u : Taker). u.0) ts) g) other)
    ∙ behind_params ts xs ys g (second_of_neither (nat_eq t.0 g) (has_name (map (λ (u : Taker). u.0) ts) g) other)

-- what is not needed has no shape
not_needed : (got : ℕ → Option Group) (ns : List GroupNeed) (g : ℕ) → group_shape (got g) ≡ None
    → shape_in (filter_map (need_shape got) ns) g ≡ None
not_needed got [] g none = refl
not_needed got (n ∷ ns) g none = by_test (group_shape (got n.group.name)) refl (nat_eq n.group.name g) refl
    (not_needed got ns g none)
  where
    rest : List (ℕ × NameShape)
    rest = filter_map (need_shape got) ns

    by_test : (o : Option NameShape) → group_shape (got n.group.name) ≡ o → (t : Bool) → nat_eq n.group.name g ≡ t
        → shape_in rest g ≡ None
        → shape_in (cons_option (option_map (λ (x : NameShape). (n.group.name, x)) o) rest) g ≡ None
    by_test None q t here later = later
    by_test (Some x) q true here later = absurd (none-some x (sym none
        ∙ ap (λ (y : ℕ). group_shape (got y)) (sym (eqb-true n.group.name g here)) ∙ q))
    by_test (Some x) q false here later = ap (λ (u : Bool). if u then Some x else shape_in rest g) here ∙ later

-- what is needed has the shape of what was got
needed_is_shaped : (got : ℕ → Option Group) (ns : List GroupNeed) (g : ℕ) → has_name (need_names ns) g ≡ true
    → shape_in (filter_map (need_shape got) ns) g ≡ group_shape (got g)
needed_is_shaped got [] g has = absurd (cc)
needed_is_shaped got (n ∷ ns) g has = by_test (group_shape (got n.group.name)) refl (nat_eq n.group.name g) refl has
    (needed_is_shaped got ns g) (not_needed got ns g)
  where
    rest : List (ℕ × NameShape)
    rest = filter_map (need_shape got) ns

    by_test : (o : Option NameShape) → group_shape (got n.group.name) ≡ o → (t : Bool) → nat_eq n.group.name g ≡ t
        → (t || has_name (need_names ns) g) ≡ true
        → (has_name (need_names ns) g ≡ true → shape_in rest g ≡ group_shape (got g))
        → (group_shape (got g) ≡ None → shape_in rest g ≡ None)
        → shape_in (cons_option (option_map (λ (x : NameShape). (n.group.name, x)) o) rest) g ≡ group_shape (got g)
    by_test None q true here h later nothing =
        let none : group_shape (got g) ≡ None = ap (λ (y : ℕ). group_shape (got y)) (sym (eqb-true n.group.name g
        here)) ∙ q in
        nothing none ∙ sym none
    by_test None q false here h later nothing = later h
    by_test (Some x) q true here h later nothing =
        ap (λ (u : Bool). if u then Some x else shape_in rest g) here
        ∙ sym q ∙ ap (λ (y : ℕ). group_shape (got y)) (eqb-true n.group.name g here)
    by_test (Some x) q false here h later nothing =
        ap (λ (u : Bool). if u then Some x else shape_in rest g) here ∙ later h

-- a group that has its own name is no other name
own_name_stays : (q : Perm) (b : Bound) → name_shape q b ≡ OfGroup None → is_another (group_bound one_name b) ≡ false
own_name_stays q (bound.Value form v) h = absurd (cc)
own_name_stays q (bound.Moved form) h = absurd (cc)
own_name_stays q (bound.Whole (image.Store st)) h = refl
own_name_stays q (bound.Whole (image.Log ps)) h = refl
own_name_stays q (bound.Other k) h = absurd (cc)
own_name_stays q (bound.Cell n) h = refl
own_name_stays q (bound.Pieces ps) h = refl

-- another name stays that name
other_name_stays : (q : Perm) (b : Bound) (g : ℕ) → name_shape q b ≡ OfGroup (Some g)
    → group_bound one_name b ≡ Some (As g)
other_name_stays q (bound.Value form v) g h = absurd (cc)
other_name_stays q (bound.Moved form) g h = absurd (cc)
other_name_stays q (bound.Whole i) g h = absurd (cc)
other_name_stays q (bound.Other k) g h = cc
other_name_stays q (bound.Cell n) g h = absurd (cc)
other_name_stays q (bound.Pieces ps) g h = absurd (cc)

-- what is bound with the shape of what was got is kept as that
shaped_is_kept : (c : Option Group) (o : Option Bound) → IsShaped (group_shape c) o
    → IsKeptAs c (given o None (group_bound one_name))
shaped_is_kept None o h = ap (λ (x : Option Bound). given x None (group_bound one_name)) h
shaped_is_kept (Some (Here st)) o h =
    ap (λ (x : Option Bound). is_another (given x None (group_bound one_name))) h.2 ∙ own_name_stays h.1 h.0 h.3
shaped_is_kept (Some (Away cell)) o h =
    ap (λ (x : Option Bound). is_another (given x None (group_bound one_name))) h.2 ∙ own_name_stays h.1 h.0 h.3
shaped_is_kept (Some (As g)) o h =
    ap (λ (x : Option Bound). given x None (group_bound one_name)) h.2 ∙ other_name_stays h.1 h.0 g h.3

-- the shape of a needed group among the names of an entered_call
shape_at_entry : (p : Code) (s : State) (c : Callee) (groups : ℕ → ℕ) (xs : List Argument) (g : ℕ)
    → names_apart c.method ≡ true → has_name (need_names c.method.needs) g ≡ true
    → shape_in (names_entered (entered_call p s c groups xs)) g ≡ group_shape ((entered_call p s c groups xs).state.groups g)
shape_at_entry p s c groups xs g apart has =
    let x : EnteredCall = entered_call p s c groups xs in
    let other : has_name (param_names c.method) g ≡ false
    = rest_are_others (param_names c.method) (need_names c.method.needs) g apart has in
    behind_params (takers p c.method) xs (filter_map (need_shape x.state.groups) c.method.needs) g
    (subst (λ zs. has_name zs g ≡ false) (sym (takers_are_named p c.method)) other)
    ∙ needed_is_shaped x.state.groups c.method.needs g has

-- where the names have the shapes with which the body began, the groups that were needed stay
pub groups_stay_by_names : NeededGroupsStay
groups_stay_by_names p i before x e r is apart same g has =
    let was = was_entered p i before x is in
    let shaped : shape_in (names_entered x) g ≡ group_shape (x.state.groups g) =
    subst (λ (y : EnteredCall). has_name (need_names y.callee.method.needs) g ≡ true → names_apart y.callee.method ≡ true
    → shape_in (names_entered y) g ≡ group_shape (y.state.groups g)) was.is
    (λ h a. shape_at_entry p before was.callee (group_given before was.callee i) was.arguments g a h) has apart in
    (shaped_is_kept) (x.state.groups g) (bound_in (running_binds e) g)
    (subst (λ o. IsShaped o (bound_in (running_binds e) g)) (ap (λ ys. shape_in ys g) same ∙ shaped)
    (shape_of_bound (running_binds e) g))
