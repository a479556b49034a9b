-- Facts on what is bound where a call is entered, as the meaning sees it.
use Rattle.std.proofs.Common.{◌≡◌, ◌∙◌, ℕ, nat_eq, Bool, true, false, ◌||◌, List, [], ◌∷◌, ◌++◌, map, Option, None}
use Rattle.std.proofs.Common.{Some, refl}
use Rattle.std.proofs.Common.{ap, sym, subst, length, take, drop}
use Rattle.std.specs.Prelude.{if◌then◌else◌}
use Rattle.std.specs.List.{cons_option}
use Rattle.std.proofs.Math.Seq.{take-append_seam, drop-append_seam}
use Rattle.ae_tree.specs.declared.form.Perm.TheVariants as perm
use Rattle.ae_tree.specs.declared.tree.GroupNeed.{GroupNeed}
use Rattle.ae_rules.specs.Verdict.{given}
use Rattle.ae_rules.specs.Lookups.{has_name}
use Rattle.ae_semantics.specs.Places.{Group}
use Rattle.ae_semantics.specs.Calls.{taken}
use Rattle.ae_values.specs.declared.env.Bound.{Bound}
use Rattle.ae_values.specs.declared.env.Bound.TheVariants as bound
use Rattle.ae_values.specs.declared.env.Image.TheVariants as image
use Rattle.ae_values.specs.Environments.{local_bound, group_bound, locals_in, groups_in}
use Rattle.ae_values.specs.Shapes.{NameShape, name_shape}
use Rattle.ae_reads.specs.Answers.{one_name}
use Rattle.ae_frames.specs.declared.given.Arg.{Arg}
use Rattle.ae_frames.specs.declared.given.Parameter.{Parameter}
use Rattle.ae_frames.specs.declared.granted.Granted.{Granted}
use Rattle.ae_frames.specs.Bounds.{bound_by, is_lendable}
use Rattle.ae_frames.specs.Givens.{arguments_of, takers_of, names_bound_by}
use Rattle.ae_frames.specs.Granting.{named_so, all_got, group_in_list}
use Rattle.ae_frames.specs.Shown.{got_of, got_shape, bound_to, shapes_to, group_names_of}
use Rattle.ae_frames.proofs.from_text.Basics.{first_of_neither, second_of_neither, functions_agree}
use Rattle.ae_frames.specs.Entries.{all_differ, need_names}
use Rattle.ae_frames.proofs.NameLemmas.{got_names, got_is_needed, got_differ, rest_are_others}

-- ---- parameters

-- the locals are the parameters with their arguments
pub locals_by : (ts : List Parameter) (xs : List Arg) (f : ℕ → Option Bound) (y : ℕ) → f y ≡ None
    → locals_in (bound_by ts xs f) y ≡ taken (takers_of ts) (arguments_of xs) y
locals_by [] xs f y none = ap (λ o. given o None local_bound) none
locals_by (t ∷ ts) [] f y none = ap (λ o. given o None local_bound) none
locals_by (t ∷ ts) (x ∷ xs) f y none = by_test (nat_eq t.name y) (locals_by ts xs f y none)
  where
    by_test : (u : Bool) → locals_in (bound_by ts xs f) y ≡ taken (takers_of ts) (arguments_of xs) y
        → given (if u then Some (bound.Value t.slot.form x.value) else bound_by ts xs f y) None local_bound
        ≡ (if u then local_bound (bound.Value t.slot.form x.value) else taken (takers_of ts) (arguments_of xs) y)
    by_test true h = refl
    by_test false h = h

-- no parameter is a group
pub no_groups_by : (ts : List Parameter) (xs : List Arg) (f : ℕ → Option Bound) (y : ℕ) → f y ≡ None
    → groups_in one_name (bound_by ts xs f) y ≡ None
no_groups_by [] xs f y none = ap (λ o. given o None (group_bound one_name)) none
no_groups_by (t ∷ ts) [] f y none = ap (λ o. given o None (group_bound one_name)) none
no_groups_by (t ∷ ts) (x ∷ xs) f y none = by_test (nat_eq t.name y) (no_groups_by ts xs f y none)
  where
    by_test : (u : Bool) → groups_in one_name (bound_by ts xs f) y ≡ None
        → given (if u then Some (bound.Value t.slot.form x.value) else bound_by ts xs f y) None (group_bound one_name)
        ≡ None
    by_test true h = refl
    by_test false h = h

-- what is no parameter's name is bound as it was
pub others_as_they_were : (ts : List Parameter) (xs : List Arg) (f : ℕ → Option Bound) (y : ℕ)
    → has_name (names_bound_by ts) y ≡ false → bound_by ts xs f y ≡ f y
others_as_they_were [] xs f y other = refl
others_as_they_were (t ∷ ts) [] f y other = refl
others_as_they_were (t ∷ ts) (x ∷ xs) f y other =
    ap (λ u. if u then Some (bound.Value t.slot.form x.value) else bound_by ts xs f y)
    (first_of_neither (nat_eq t.name y) (has_name (names_bound_by ts) y) other)
    ∙ others_as_they_were ts xs f y (second_of_neither (nat_eq t.name y) (has_name (names_bound_by ts) y) other)

-- ---- groups

-- what can be lent is no local
lendable_is_no_local : (b : Bound) → is_lendable b ≡ true → local_bound b ≡ None
lendable_is_no_local (bound.Value form v) h = absurd (cc)
lendable_is_no_local (bound.Moved form) h = refl
lendable_is_no_local (bound.Whole i) h = refl
lendable_is_no_local (bound.Other g) h = refl
lendable_is_no_local (bound.Cell n) h = refl
lendable_is_no_local (bound.Pieces ps) h = refl

-- a group that can be lent is first in the list
lendable_is_listed : (g : ℕ) (b : Bound) (rest : List (ℕ × Group)) (y : ℕ) → is_lendable b ≡ true
    → group_in_list (cons_option (named_so g (group_bound one_name b)) rest) y
    ≡ (if nat_eq g y then group_bound one_name b else group_in_list rest y)
lendable_is_listed g (bound.Value form v) rest y h = absurd (cc)
lendable_is_listed g (bound.Moved form) rest y h = absurd (cc)
lendable_is_listed g (bound.Whole (image.Store st)) rest y h = refl
lendable_is_listed g (bound.Whole (image.Log ps)) rest y h = absurd (cc)
lendable_is_listed g (bound.Other k) rest y h = refl
lendable_is_listed g (bound.Cell n) rest y h = refl
lendable_is_listed g (bound.Pieces ps) rest y h = absurd (cc)

lendable_is_shaped : (g : ℕ) (b : Bound) (rest : List (ℕ × Group)) → is_lendable b ≡ true
    → map got_shape (cons_option (named_so g (group_bound one_name b)) rest)
    ≡ (g, name_shape perm.Unique b) ∷ map got_shape rest
lendable_is_shaped g (bound.Value form v) rest h = absurd (cc)
lendable_is_shaped g (bound.Moved form) rest h = absurd (cc)
lendable_is_shaped g (bound.Whole (image.Store st)) rest h = refl
lendable_is_shaped g (bound.Whole (image.Log ps)) rest h = absurd (cc)
lendable_is_shaped g (bound.Other k) rest h = refl
lendable_is_shaped g (bound.Cell n) rest h = refl
lendable_is_shaped g (bound.Pieces ps) rest h = absurd (cc)

lendable_is_named : (g : ℕ) (b : Bound) (rest : List (ℕ × Group)) → is_lendable b ≡ true
    → got_names (cons_option (named_so g (group_bound one_name b)) rest) ≡ g ∷ got_names rest
lendable_is_named g (bound.Value form v) rest h = absurd (cc)
lendable_is_named g (bound.Moved form) rest h = absurd (cc)
lendable_is_named g (bound.Whole (image.Store st)) rest h = refl
lendable_is_named g (bound.Whole (image.Log ps)) rest h = absurd (cc)
lendable_is_named g (bound.Other k) rest h = refl
lendable_is_named g (bound.Cell n) rest h = refl
lendable_is_named g (bound.Pieces ps) rest h = absurd (cc)

-- the groups have the shapes of what is got
pub granted_are_shaped : (gs : List Granted) → shapes_to gs ≡ map got_shape (got_of gs)
granted_are_shaped [] = refl
granted_are_shaped (g ∷ gs) =
    ap (λ (xs : List (ℕ × NameShape)). (g.group, name_shape perm.Unique g.bound) ∷ xs) (granted_are_shaped gs)
    ∙ sym (lendable_is_shaped g.group g.bound (got_of gs) g.lendable)

-- the groups have the names of what is got
pub granted_are_named : (gs : List Granted) → group_names_of gs ≡ got_names (got_of gs)
granted_are_named [] = refl
granted_are_named (g ∷ gs) = ap (λ xs. g.group ∷ xs) (granted_are_named gs)
    ∙ sym (lendable_is_named g.group g.bound (got_of gs) g.lendable)

-- the locals are those besides the groups
pub locals_to : (gs : List Granted) (f : ℕ → Option Bound) (y : ℕ)
    → (has_name (group_names_of gs) y ≡ true → f y ≡ None) → locals_in (bound_to gs f) y ≡ locals_in f y
locals_to [] f y free = refl
locals_to (g ∷ gs) f y free = by_test (nat_eq g.group y) free (locals_to gs f y)
  where
    by_test : (t : Bool) → ((t || has_name (group_names_of gs) y) ≡ true → f y ≡ None)
        → ((has_name (group_names_of gs) y ≡ true → f y ≡ None) → locals_in (bound_to gs f) y ≡ locals_in f y)
        → given (if t then Some g.bound else bound_to gs f y) None local_bound ≡ locals_in f y
    by_test true none later = lendable_is_no_local g.bound g.lendable
        ∙ ap (λ o. given o None local_bound) (sym (none refl))
    by_test false none later = later none

-- the groups are what is got
pub groups_to : (gs : List Granted) (f : ℕ → Option Bound) (y : ℕ) → groups_in one_name f y ≡ None
    → groups_in one_name (bound_to gs f) y ≡ group_in_list (got_of gs) y
groups_to [] f y none = none
groups_to (g ∷ gs) f y none = by_test (nat_eq g.group y) (groups_to gs f y none)
    ∙ sym (lendable_is_listed g.group g.bound (got_of gs) y g.lendable)
  where
    by_test : (t : Bool) → groups_in one_name (bound_to gs f) y ≡ group_in_list (got_of gs) y
        → given (if t then Some g.bound else bound_to gs f y) None (group_bound one_name)
        ≡ (if t then group_bound one_name g.bound else group_in_list (got_of gs) y)
    by_test true h = refl
    by_test false h = h

-- ---- what waits

-- what waits from the base on
pub waits_behind : {A : Type 0} (all outer own : List A) (base : ℕ) → all ≡ outer ++ own → base ≡ length outer
    → drop base all ≡ own
waits_behind all outer own base is at = ap (λ n. drop n all) at ∙ ap (drop (length outer)) is
    ∙ drop-append_seam outer own

-- what waits before the base
pub waits_before : {A : Type 0} (all outer own : List A) (base : ℕ) → all ≡ outer ++ own → base ≡ length outer
    → take base all ≡ outer
waits_before all outer own base is at = ap (λ n. take n all) at ∙ ap (take (length outer)) is
    ∙ take-append_seam outer own

-- ---- all at once

-- the groups that are got have names of their own
pub granted_differ : (gs : List Granted) (groups : ℕ → ℕ) (cs : ℕ → Option Group) (ns : List GroupNeed)
    → got_of gs ≡ all_got groups cs [] ns → all_differ (need_names ns) ≡ true → all_differ (group_names_of gs) ≡ true
granted_differ gs groups cs ns is apart = subst (λ zs. all_differ zs ≡ true)
    (sym (granted_are_named gs ∙ ap got_names is)) (got_differ groups cs [] ns apart)

-- nothing is bound under them
pub granted_are_free : (ts : List Parameter) (xs : List Arg) (gs : List Granted) (groups : ℕ → ℕ)
    (cs : ℕ → Option Group) (ns : List GroupNeed) (f g : ℕ → Option Bound) (y : ℕ)
    → all_differ (names_bound_by ts ++ need_names ns) ≡ true → got_of gs ≡ all_got groups cs [] ns → g ≡ bound_by ts xs f
    → f y ≡ None → has_name (group_names_of gs) y ≡ true → g y ≡ None
granted_are_free ts xs gs groups cs ns f g y apart is bound none has =
    let needed : has_name (need_names ns) y ≡ true = got_is_needed groups cs [] ns y
    (subst (λ zs. has_name zs y ≡ true) (granted_are_named gs ∙ ap got_names is) has) in
    ap (λ (h : ℕ → Option Bound). h y) bound
    ∙ others_as_they_were ts xs f y (rest_are_others (names_bound_by ts) (need_names ns) y apart needed) ∙ none

-- the locals of a call that is opened
pub locals_opened : (ts : List Parameter) (xs : List Arg) (gs : List Granted) (f g h : ℕ → Option Bound)
    → h ≡ bound_to gs g → g ≡ bound_by ts xs f → ((y : ℕ) → f y ≡ None)
    → ((y : ℕ) → has_name (group_names_of gs) y ≡ true → g y ≡ None)
    → locals_in h ≡ taken (takers_of ts) (arguments_of xs)
locals_opened ts xs gs f g h is bound none free = ap locals_in is
    ∙ functions_agree (locals_in (bound_to gs g)) (locals_in g) (λ y. locals_to gs g y (free y))
    ∙ ap locals_in bound
    ∙ functions_agree (locals_in (bound_by ts xs f)) (taken (takers_of ts) (arguments_of xs))
    (λ y. locals_by ts xs f y (none y))

-- the groups of a call that is opened
pub groups_opened : (ts : List Parameter) (xs : List Arg) (gs : List Granted) (f g h : ℕ → Option Bound)
    (got : List (ℕ × Group)) → h ≡ bound_to gs g → g ≡ bound_by ts xs f → ((y : ℕ) → f y ≡ None) → got_of gs ≡ got
    → groups_in one_name h ≡ group_in_list got
groups_opened ts xs gs f g h got is bound none same = ap (groups_in one_name) (is ∙ ap (bound_to gs) bound)
    ∙ functions_agree (groups_in one_name (bound_to gs (bound_by ts xs f))) (group_in_list (got_of gs))
    (λ y. groups_to gs (bound_by ts xs f) y (no_groups_by ts xs f y (none y)))
    ∙ ap group_in_list same
