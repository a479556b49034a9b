-- That names which end with a block are those that the meaning forgets there.
use Rattle.std.proofs.Common.{◌≡◌, refl, ap, sym, ◌∙◌, ℕ, nat_eq, Bool, true, false}
use Rattle.std.proofs.Common.{if◌then◌else◌, List, [], ◌∷◌, ◌++◌, Option, None, Some}
use Rattle.std.specs.Prelude.{is_some, option_map, take, drop}
use Rattle.std.proofs.lemmas.List.{take-append-drop}
use mathlib.Core.Path.{fun_ext}
use Rattle.ae_tree.specs.declared.form.Perm.{Perm}
use Rattle.ae_rules.specs.Verdict.{given}
use Rattle.ae_rules.specs.Groups.{known}
use Rattle.ae_rules.specs.Context.{Local, Context}
use Rattle.ae_semantics.specs.Values as meant_value
use Rattle.ae_semantics.specs.Places as meant
use Rattle.ae_semantics.specs.Places.{CellName, Group, State}
use Rattle.ae_semantics.specs.Meaning.{forgotten}
use Rattle.ae_values.specs.declared.env.Bind.{Bind}
use Rattle.ae_values.specs.declared.env.Bound.{Bound}
use Rattle.ae_values.specs.declared.env.Bound.TheVariants as bound
use Rattle.ae_values.specs.Binding.{bound_in}
use Rattle.ae_values.specs.Environments.{local_bound, group_bound, locals_in, groups_in}
use Rattle.ae_values.specs.Shapes.{NameShape, name_shape, shapes, shape_in}
use Rattle.ae_names.specs.Known.{local_form, is_of_group, AreKnown, AreNew, state_of, NamesEnd}

-- what is bound to a name has the shape of the name
abbrev pub HasShape : Option NameShape → Option Bound → Type 0
HasShape None None = Unit {0}
HasShape None (Some b) = ⊥
HasShape (Some s) None = ⊥
HasShape (Some s) (Some b) = (q : Perm) × (s ≡ name_shape q b)

has_shape_if : (test : Bool) (q : Perm) (b : Bound) (s : Option NameShape) (o : Option Bound) → HasShape s o
    → HasShape (if test then Some (name_shape q b) else s) (if test then Some b else o)
has_shape_if true q b s o h = (q, refl)
has_shape_if false q b s o h = h

pub has_shape : (bs : List Bind) (x : ℕ) → HasShape (shape_in (shapes bs) x) (bound_in bs x)
has_shape [] x = tt
has_shape (b ∷ bs) x =
    (has_shape_if) (nat_eq b.name x) b.declared b.bound (shape_in (shapes bs) x) (bound_in bs x) (has_shape bs x)

-- the first of two, where there is one
abbrev or_else : {A : Type 0} → Option A → Option A → Option A
or_else None o = o
or_else (Some x) o = Some x

or_else_if : (test : Bool) (b : Bound) (o r : Option Bound)
    → (if test then Some b else or_else o r) ≡ or_else (if test then Some b else o) r
or_else_if true b o r = refl
or_else_if false b o r = refl

bound_in_both : (xs bs : List Bind) (x : ℕ) → bound_in (xs ++ bs) x ≡ or_else (bound_in xs x) (bound_in bs x)
bound_in_both [] bs x = refl
bound_in_both (a ∷ xs) bs x = ap (λ (o : Option Bound). if nat_eq a.name x then Some a.bound else o) (bound_in_both xs bs x)
    ∙ or_else_if (nat_eq a.name x) a.bound (bound_in xs x) (bound_in bs x)

-- ---- locals

local_stays : (q : Perm) (b : Bound) (l : Option Local) → option_map (λ (y : Local). y.form) l ≡ local_form (name_shape q b)
    → local_bound b ≡ (if is_some l then local_bound b else None)
local_stays q b (Some l) e = refl
local_stays q (bound.Value form v) None e = absurd (cc)
local_stays q (bound.Moved form) None e = refl
local_stays q (bound.Whole image) None e = refl
local_stays q (bound.Other g) None e = refl
local_stays q (bound.Cell n) None e = refl
local_stays q (bound.Pieces ps) None e = refl

nothing_known : (l : Option Local) (o : Option meant.Bound) → option_map (λ (y : Local). y.form) l ≡ None
    → None ≡ (if is_some l then o else None)
nothing_known None o e = refl
nothing_known (Some l) o e = absurd (cc)

local_kept : (s : Option NameShape) (o r : Option Bound) (l : Option Local) → HasShape s o
    → given s None local_form ≡ option_map (λ (y : Local). y.form) l
    → given o None local_bound ≡ (if is_some l then given (or_else o r) None local_bound else None)
local_kept None None r l h e = nothing_known l (given r None local_bound) (sym e)
local_kept None (Some b) r l h e = absurd h
local_kept (Some s) None r l h e = absurd h
local_kept (Some s) (Some b) r l h e = local_stays h.0 b l (sym e ∙ ap local_form h.1)

-- ---- groups

group_stays : (cells : ℕ → CellName) (q : Perm) (b : Bound) (test : Bool)
    → (is_of_group (Some (name_shape q b)) ≡ true → test ≡ true)
    → group_bound cells b ≡ (if test then group_bound cells b else None)
group_stays cells q b true h = refl
group_stays cells q (bound.Value form v) false h = refl
group_stays cells q (bound.Moved form) false h = refl
group_stays cells q (bound.Whole image) false h = absurd (cc (h refl))
group_stays cells q (bound.Other g) false h = absurd (cc (h refl))
group_stays cells q (bound.Cell n) false h = absurd (cc (h refl))
group_stays cells q (bound.Pieces ps) false h = refl

group_ends : (cells : ℕ → CellName) (q : Perm) (b : Bound) (test : Bool)
    → (is_of_group (Some (name_shape q b)) ≡ true → test ≡ false)
    → None ≡ (if test then group_bound cells b else None)
group_ends cells q b false h = refl
group_ends cells q (bound.Value form v) true h = refl
group_ends cells q (bound.Moved form) true h = refl
group_ends cells q (bound.Whole image) true h = absurd (cc (h refl))
group_ends cells q (bound.Other g) true h = absurd (cc (h refl))
group_ends cells q (bound.Cell n) true h = absurd (cc (h refl))
group_ends cells q (bound.Pieces ps) true h = refl

nothing_there : (test : Bool) (o : Option Group) → o ≡ None → o ≡ (if test then o else None)
nothing_there true o e = refl
nothing_there false o e = e

group_kept : (cells : ℕ → CellName) (s t : Option NameShape) (o r : Option Bound) (test : Bool) → HasShape s o
    → HasShape t r → (is_of_group s ≡ true → test ≡ true) → (is_of_group t ≡ true → test ≡ false)
    → given o None (group_bound cells) ≡ (if test then given (or_else o r) None (group_bound cells) else None)
group_kept cells None t (Some b) r test h k f g = absurd h
group_kept cells (Some s) t None r test h k f g = absurd h
group_kept cells (Some s) t (Some b) r test h k f g = group_stays cells h.0 b test (λ e. f (ap (λ z. is_of_group (Some z)) h.1 ∙ e))
group_kept cells None None None None test h k f g = nothing_there test None refl
group_kept cells None None None (Some b) test h k f g = absurd k
group_kept cells None (Some t) None None test h k f g = absurd k
group_kept cells None (Some t) None (Some b) test h k f g =
    (group_ends) cells k.0 b test (λ e. g (ap (λ z. is_of_group (Some z)) k.1 ∙ e))

-- ---- the end of a block

ends_with : (cells : ℕ → CellName) (r : Option meant_value.Val) (c : Context) (xs bs : List Bind)
    → AreKnown c (shapes xs) → AreNew c (shapes bs)
    → state_of cells r xs ≡ forgotten c (state_of cells r (xs ++ bs))
ends_with cells r c xs bs known_here new =
    let locals : locals_in (bound_in xs) ≡ (λ x. if is_some (c.local x) then locals_in (bound_in (xs ++ bs)) x else None) =
    fun_ext (λ x. local_kept (shape_in (shapes xs) x) (bound_in xs x) (bound_in bs x) (c.local x) (has_shape xs x)
    (known_here.local x)
    ∙ ap (λ (o : Option Bound). if is_some (c.local x) then given o None local_bound else None)
    (sym (bound_in_both xs bs x))) in
    let groups : groups_in cells (bound_in xs)
    ≡ (λ g. if known c.group g then groups_in cells (bound_in (xs ++ bs)) g else None) =
    fun_ext (λ g. group_kept cells (shape_in (shapes xs) g) (shape_in (shapes bs) g) (bound_in xs g) (bound_in bs g)
    (known c.group g) (has_shape xs g) (has_shape bs g) (known_here.group g) (new g)
    ∙ ap (λ (o : Option Bound). if known c.group g then given o None (group_bound cells) else None)
    (sym (bound_in_both xs bs g))) in
    ap (λ (l : ℕ → Option meant.Bound). record { locals = l; groups = groups_in cells (bound_in xs); result = r }) locals
    ∙ ap (λ (gs : ℕ → Option Group). record {
      locals = λ x. if is_some (c.local x) then locals_in (bound_in (xs ++ bs)) x else None;
      groups = gs;
      result = r;
    }) groups

-- where the names after the first so many end, the state is the one that the meaning has where a block ends
pub names_end : NamesEnd
names_end cells r c k bs known_here new = ends_with cells r c (take k bs) (drop k bs) known_here new
    ∙ ap (λ (y : List Bind). forgotten c (state_of cells r y)) (take-append-drop k bs)
