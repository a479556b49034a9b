-- Facts on what is bound under names, where a bind is taken out, changed or added.
use Rattle.std.proofs.Common.{◌≡◌, ℕ, zero, suc, nat_eq, Bool, true, false, not, List, [], ◌∷◌, ◌++◌, Option, None}
use Rattle.std.proofs.Common.{Some, slice_get, slice_set, option_map, refl, sym, ap, ◌∙◌, arith}
use Rattle.std.specs.Prelude.{if◌then◌else◌, is_some, ◌<◌, ◌≤◌, ◌+◌, ◌-◌, take, drop, length}
use Rattle.std.proofs.lemmas.Bool.{and_from, eqb-true, ne_eqb, both_ways}
use Rattle.std.proofs.lemmas.List.{drop-set-add, drop-append-le}
use Rattle.std.proofs.lemmas.Option.{none-some, same_Some}
use Rattle.ae_values.proofs.from_text.Basics.{first_of_both, second_of_both, number_is_itself, functions_agree}
use Rattle.ae_rules.specs.Verdict.{given}
use Rattle.ae_semantics.specs.Values as meant_value
use Rattle.ae_semantics.specs.Places.{with, name_of, State, CellName}
use Rattle.ae_values.specs.declared.env.Bind.{Bind}
use Rattle.ae_tree.specs.declared.form.Perm.{Perm}
use Rattle.ae_values.specs.declared.env.Bound.{Bound}
use Rattle.ae_values.specs.Binding.{bound_in, bound_once, IsNamedAt, heads, declared_as}
use Rattle.ae_values.specs.Environments.{local_bound, group_bound, BindsChangeOneName, bound_under, locals_in, groups_in}
use Rattle.ae_values.specs.Environments.{state_in, LocalsChange, GroupsChange}

-- what is not there is nothing
nothing_there : {A : Type 0} (o : Option A) → not (is_some o) ≡ true → o ≡ None
nothing_there None absent = refl
nothing_there (Some x) absent = absurd (cc)

there_is_none : {A : Type 0} (o : Option A) → o ≡ None → not (is_some o) ≡ true
there_is_none None none = refl
there_is_none (Some x) none = absurd (none-some x (sym none))

-- the name of the first bind is not bound in the others
pub first_is_alone : (c : Bind) (cs : List Bind) → bound_once (c ∷ cs) ≡ true → bound_in cs c.name ≡ None
first_is_alone c cs once = nothing_there (bound_in cs c.name)
    (first_of_both (not (is_some (bound_in cs c.name))) (bound_once cs) once)

pub others_once : (c : Bind) (cs : List Bind) → bound_once (c ∷ cs) ≡ true → bound_once cs ≡ true
others_once c cs once = second_of_both (not (is_some (bound_in cs c.name))) (bound_once cs) once

-- of two tests of which at most one holds either may be asked first
either_first : {A : Type 0} (s t : Bool) (x y z : A) → (s ≡ true → t ≡ true → ⊥)
    → (if s then x else (if t then y else z)) ≡ (if t then y else (if s then x else z))
either_first true true x y z apart = absurd (apart refl refl)
either_first true false x y z apart = refl
either_first false t x y z apart = refl

-- where a test is asked twice the second answer counts
asked_twice : {A : Type 0} (t : Bool) (x y z : A) → (if t then x else (if t then y else z)) ≡ (if t then x else z)
asked_twice true x y z = refl
asked_twice false x y z = refl

-- what stands at a place is bound
named_is_bound : (bs : List Bind) (i x : ℕ) → IsNamedAt bs i x → bound_in bs x ≡ None → ⊥
named_is_bound [] i x at none = none-some x at
named_is_bound (c ∷ cs) zero x at none = by_test (nat_eq c.name x) refl none
  where
    by_test : (t : Bool) → nat_eq c.name x ≡ t → (if t then Some c.bound else bound_in cs x) ≡ None → ⊥
    by_test true q here = none-some c.bound (sym here)
    by_test false q here = both_ways (nat_eq c.name x) q
        (ap (λ y. nat_eq c.name y) (sym (same_Some c.name x at)) ∙ number_is_itself c.name)
named_is_bound (c ∷ cs) (suc i) x at none = named_is_bound cs i x at
    (by_test (nat_eq c.name x) none)
  where
    by_test : (t : Bool) → (if t then Some c.bound else bound_in cs x) ≡ None → bound_in cs x ≡ None
    by_test true here = absurd (none-some c.bound (sym here))
    by_test false here = here

-- a bind further on has another name than the first
later_is_another : (c : Bind) (cs : List Bind) (i x : ℕ) → bound_once (c ∷ cs) ≡ true → IsNamedAt cs i x
    → c.name ≡ x → ⊥
later_is_another c cs i x once at same =
    named_is_bound cs i x at (ap (bound_in cs) (sym same) ∙ first_is_alone c cs once)

-- of the first name and a later one a name is at most one
not_both_names : (c : Bind) (cs : List Bind) (i x y : ℕ) → bound_once (c ∷ cs) ≡ true → IsNamedAt cs i x
    → nat_eq c.name y ≡ true → nat_eq x y ≡ true → ⊥
not_both_names c cs i x y once at p q =
    later_is_another c cs i x once at (eqb-true c.name y p ∙ sym (eqb-true x y q))

-- what stands at a place is what is bound under its name
pub bound_at_place : (bs : List Bind) (i x : ℕ) (b : Bind) → bound_once bs ≡ true → IsNamedAt bs i x
    → slice_get bs i ≡ Some b → Some b.bound ≡ bound_in bs x
bound_at_place [] i x b once named at = absurd (none-some x named)
bound_at_place (c ∷ cs) zero x b once named at = by_test (nat_eq c.name x) refl
  where
    by_test : (t : Bool) → nat_eq c.name x ≡ t → Some b.bound ≡ (if t then Some c.bound else bound_in cs x)
    by_test true q = ap (λ (d : Bind). Some d.bound) (sym (same_Some c b at))
    by_test false q = absurd (both_ways (nat_eq c.name x) q
        (ap (λ y. nat_eq c.name y) (sym (same_Some c.name x named)) ∙ number_is_itself c.name))
bound_at_place (c ∷ cs) (suc i) x b once named at =
    bound_at_place cs i x b (others_once c cs once) named at
    ∙ ap (λ t. if t then Some c.bound else bound_in cs x)
    (sym (ne_eqb c.name x (later_is_another c cs i x once named)))

-- ---- a bind changed

-- where a bind is changed, its name is bound to the new thing, and all else stays
pub bound_anew : (bs : List Bind) (i : ℕ) (n : Bind) (y : ℕ) → bound_once bs ≡ true → IsNamedAt bs i n.name
    → bound_in (slice_set bs i n) y ≡ with n.name (Some n.bound) (bound_in bs) y
bound_anew [] i n y once at = absurd (none-some n.name at)
bound_anew (c ∷ cs) zero n y once at = sym (asked_twice (nat_eq n.name y) (Some n.bound) (Some c.bound) (bound_in cs y))
    ∙ ap (λ m. if nat_eq n.name y then Some n.bound else (if nat_eq m y then Some c.bound else bound_in cs y))
    (sym (same_Some c.name n.name at))
bound_anew (c ∷ cs) (suc i) n y once at =
    ap (λ z. if nat_eq c.name y then Some c.bound else z) (bound_anew cs i n y (others_once c cs once) at)
    ∙ either_first (nat_eq c.name y) (nat_eq n.name y) (Some c.bound) (Some n.bound) (bound_in cs y)
    (not_both_names c cs i n.name y once at)

-- where a bind is changed no name is bound twice
pub once_anew : (bs : List Bind) (i : ℕ) (n : Bind) → bound_once bs ≡ true → IsNamedAt bs i n.name
    → bound_once (slice_set bs i n) ≡ true
once_anew [] i n once at = absurd (none-some n.name at)
once_anew (c ∷ cs) zero n once at = and_from (not (is_some (bound_in cs n.name))) (bound_once cs)
    (there_is_none (bound_in cs n.name)
    (ap (bound_in cs) (sym (same_Some c.name n.name at)) ∙ first_is_alone c cs once))
    (others_once c cs once)
once_anew (c ∷ cs) (suc i) n once at = and_from (not (is_some (bound_in (slice_set cs i n) c.name)))
    (bound_once (slice_set cs i n))
    (there_is_none (bound_in (slice_set cs i n) c.name) (bound_anew cs i n c.name (others_once c cs once) at
    ∙ ap (λ t. if t then Some n.bound else bound_in cs c.name)
    (ne_eqb n.name c.name (λ e. later_is_another c cs i n.name once at (sym e)))
    ∙ first_is_alone c cs once))
    (once_anew cs i n (others_once c cs once) at)

-- ---- a bind added

-- a name that is not bound is not that of the first bind
first_is_another : (c : Bind) (cs : List Bind) (x : ℕ) → bound_in (c ∷ cs) x ≡ None → nat_eq c.name x ≡ false
first_is_another c cs x none = by_test (nat_eq c.name x) none
  where
    by_test : (t : Bool) → (if t then Some c.bound else bound_in cs x) ≡ None → t ≡ false
    by_test true here = absurd (none-some c.bound (sym here))
    by_test false here = refl

not_in_others : (c : Bind) (cs : List Bind) (x : ℕ) → bound_in (c ∷ cs) x ≡ None → bound_in cs x ≡ None
not_in_others c cs x none =
    ap (λ t. if t then Some c.bound else bound_in cs x) (sym (first_is_another c cs x none)) ∙ none

-- where a bind with a new name is added, that name is bound to it, and all else stays
pub bound_besides : (bs : List Bind) (n : Bind) (y : ℕ) → bound_in bs n.name ≡ None
    → bound_in (bs ++ n ∷ []) y ≡ with n.name (Some n.bound) (bound_in bs) y
bound_besides [] n y none = refl
bound_besides (c ∷ cs) n y none =
    ap (λ z. if nat_eq c.name y then Some c.bound else z) (bound_besides cs n y (not_in_others c cs n.name none))
    ∙ either_first (nat_eq c.name y) (nat_eq n.name y) (Some c.bound) (Some n.bound) (bound_in cs y)
    (λ p q. both_ways (nat_eq c.name n.name) (first_is_another c cs n.name none)
    (ap (λ m. nat_eq c.name m) (sym (eqb-true c.name y p ∙ sym (eqb-true n.name y q))) ∙ number_is_itself c.name))

-- where a bind with a new name is added no name is bound twice
pub once_besides : (bs : List Bind) (n : Bind) → bound_once bs ≡ true → bound_in bs n.name ≡ None
    → bound_once (bs ++ n ∷ []) ≡ true
once_besides [] n once none = refl
once_besides (c ∷ cs) n once none =
    and_from (not (is_some (bound_in (cs ++ n ∷ []) c.name))) (bound_once (cs ++ n ∷ []))
    (there_is_none (bound_in (cs ++ n ∷ []) c.name)
    (bound_besides cs n c.name (not_in_others c cs n.name none)
    ∙ ap (λ t. if t then Some n.bound else bound_in cs c.name)
    (ne_eqb n.name c.name (λ e. both_ways (nat_eq c.name n.name) (first_is_another c cs n.name none)
    (ap (λ m. nat_eq c.name m) e ∙ number_is_itself c.name)))
    ∙ first_is_alone c cs once))
    (once_besides cs n (others_once c cs once) (not_in_others c cs n.name none))

-- ---- the binds of the running call among all

-- what stands at a place behind others
get_behind : {A : Type 0} (xs : List A) (n i : ℕ) → slice_get (drop n xs) i ≡ slice_get xs (n + i)
get_behind xs zero i = let e : i ≡ 0 + i = omega arith in ap (slice_get xs) e
get_behind [] (suc n) i = refl
get_behind (x ∷ xs) (suc n) i =
    let e : suc (n + i) ≡ suc n + i = omega arith in get_behind xs n i ∙ ap (slice_get (x ∷ xs)) e

-- a place from the base on, counted from there
at_from_base : {A : Type 0} (xs : List A) (base at : ℕ) → base ≤ at
    → slice_get (drop base xs) (at - base) ≡ slice_get xs at
at_from_base xs base at behind =
    let e : base + (at - base) ≡ at = omega arith in get_behind xs base (at - base) ∙ ap (slice_get xs) e

named_from_base : (bs : List Bind) (base at x : ℕ) → base ≤ at → IsNamedAt bs at x
    → IsNamedAt (drop base bs) (at - base) x
named_from_base bs base at x behind named =
    ap (option_map (λ (b : Bind). b.name)) (at_from_base bs base at behind) ∙ named

set_from_base : {A : Type 0} (xs : List A) (base at : ℕ) (x : A) → base ≤ at
    → drop base (slice_set xs at x) ≡ slice_set (drop base xs) (at - base) x
set_from_base xs base at x behind =
    let e : at ≡ base + (at - base) = omega arith in
    ap (λ k. drop base (slice_set xs k x)) e ∙ drop-set-add base xs (at - base) x

-- what stands at a place of the running call is what is bound there under its name
pub bound_at_found : (bs : List Bind) (base at x : ℕ) (b : Bind) → bound_once (drop base bs) ≡ true → base ≤ at
    → IsNamedAt bs at x → slice_get bs at ≡ Some b → Some b.bound ≡ bound_in (drop base bs) x
bound_at_found bs base at x b once behind named found = bound_at_place (drop base bs) (at - base) x b once
    (named_from_base bs base at x behind named) (at_from_base bs base at behind ∙ found)

name_at_found : (bs : List Bind) (at x : ℕ) (b : Bind) → IsNamedAt bs at x → slice_get bs at ≡ Some b → b.name ≡ x
name_at_found bs at x b named found = same_Some b.name x
    (ap (option_map (λ (c : Bind). c.name)) (sym found) ∙ named)

-- where another thing is bound at a place of the running call, the name there has it, and all else stays
pub names_exchanged : (bs : List Bind) (base at x : ℕ) (c : Bind) (b : Bound) → bound_once (drop base bs) ≡ true
    → base ≤ at → IsNamedAt bs at x → slice_get bs at ≡ Some c
    → bound_in (drop base (slice_set bs at (record c { bound = b }))) ≡ with x (Some b) (bound_in (drop base bs))
names_exchanged bs base at x c b once behind named found =
    ap bound_in (set_from_base bs base at (record c { bound = b }) behind)
    ∙ functions_agree _ (with c.name (Some b) (bound_in (drop base bs)))
    (λ y. bound_anew (drop base bs) (at - base) (record c { bound = b }) y once
    (named_from_base bs base at c.name behind (ap (option_map (λ (d : Bind). d.name)) found)))
    ∙ ap (λ n. with n (Some b) (bound_in (drop base bs))) (name_at_found bs at x c named found)

pub once_exchanged : (bs : List Bind) (base at : ℕ) (c : Bind) (b : Bound) → bound_once (drop base bs) ≡ true
    → base ≤ at → slice_get bs at ≡ Some c
    → bound_once (drop base (slice_set bs at (record c { bound = b }))) ≡ true
once_exchanged bs base at c b once behind found =
    ap bound_once (set_from_base bs base at (record c { bound = b }) behind)
    ∙ once_anew (drop base bs) (at - base) (record c { bound = b }) once
    (named_from_base bs base at c.name behind (ap (option_map (λ (d : Bind). d.name)) found))

heads_with : (bs : List Bind) (i : ℕ) (c : Bind) (b : Bound) → slice_get bs i ≡ Some c
    → heads (slice_set bs i (record c { bound = b })) ≡ heads bs
heads_with [] i c b found = refl
heads_with (d ∷ ds) zero c b found = ap (λ (e : Bind). (e.name, e.declared) ∷ heads ds) (sym (same_Some d c found))
heads_with (d ∷ ds) (suc i) c b found = ap (λ hs. (d.name, d.declared) ∷ hs) (heads_with ds i c b found)

-- the names and the permissions with which they were declared stay
pub heads_exchanged : (bs : List Bind) (base at : ℕ) (c : Bind) (b : Bound) → base ≤ at → slice_get bs at ≡ Some c
    → heads (drop base (slice_set bs at (record c { bound = b }))) ≡ heads (drop base bs)
heads_exchanged bs base at c b behind found =
    ap heads (set_from_base bs base at (record c { bound = b }) behind)
    ∙ heads_with (drop base bs) (at - base) c b (at_from_base bs base at behind ∙ found)

-- what has a name is there
pub named_within : (bs : List Bind) (i x : ℕ) → IsNamedAt bs i x → i < length bs
named_within [] i x at = absurd (none-some x at)
named_within (b ∷ bs) zero x at = omega arith
named_within (b ∷ bs) (suc i) x at = let h = named_within bs i x at in omega arith

-- where a bind with a new name is added behind all, that name is bound to it in the running call, and all else stays
pub names_besides : (bs : List Bind) (base : ℕ) (n : Bind) → base ≤ length bs
    → bound_in (drop base bs) n.name ≡ None
    → bound_in (drop base (bs ++ n ∷ [])) ≡ with n.name (Some n.bound) (bound_in (drop base bs))
names_besides bs base n within none = ap bound_in (drop-append-le base bs (n ∷ []) within)
    ∙ functions_agree _ (with n.name (Some n.bound) (bound_in (drop base bs)))
    (λ y. bound_besides (drop base bs) n y none)

pub once_added : (bs : List Bind) (base : ℕ) (n : Bind) → base ≤ length bs → bound_once (drop base bs) ≡ true
    → bound_in (drop base bs) n.name ≡ None → bound_once (drop base (bs ++ n ∷ [])) ≡ true
once_added bs base n within once none = ap bound_once (drop-append-le base bs (n ∷ []) within)
    ∙ once_besides (drop base bs) n once none

-- the name at a place stays
pub named_with : (bs : List Bind) (i x : ℕ) (c : Bind) (b : Bound) → slice_get bs i ≡ Some c → IsNamedAt bs i x
    → IsNamedAt (slice_set bs i (record c { bound = b })) i x
named_with [] i x c b found named = named
named_with (d ∷ ds) zero x c b found named = ap (λ (e : Bind). Some e.name) (sym (same_Some d c found)) ∙ named
named_with (d ∷ ds) (suc i) x c b found named = named_with ds i x c b found named

declared_at_place : (bs : List Bind) (i x : ℕ) (b : Bind) → bound_once bs ≡ true → IsNamedAt bs i x
    → slice_get bs i ≡ Some b → declared_as (heads bs) x ≡ Some b.declared
declared_at_place [] i x b once named at = absurd (none-some x named)
declared_at_place (c ∷ cs) zero x b once named at = by_test (nat_eq c.name x) refl
  where
    by_test : (t : Bool) → nat_eq c.name x ≡ t
        → (if t then Some c.declared else declared_as (heads cs) x) ≡ Some b.declared
    by_test true q = ap (λ (d : Bind). Some d.declared) (same_Some c b at)
    by_test false q = absurd (both_ways (nat_eq c.name x) q
        (ap (λ y. nat_eq c.name y) (sym (same_Some c.name x named)) ∙ number_is_itself c.name))
declared_at_place (c ∷ cs) (suc i) x b once named at =
    ap (λ t. if t then Some c.declared else declared_as (heads cs) x)
    (ne_eqb c.name x (later_is_another c cs i x once named))
    ∙ declared_at_place cs i x b (others_once c cs once) named at

-- the permission with which the name at a place of the running call was declared is the one that stands there
pub declared_at_found : (bs : List Bind) (base at x : ℕ) (b : Bind) → bound_once (drop base bs) ≡ true → base ≤ at
    → IsNamedAt bs at x → slice_get bs at ≡ Some b → declared_as (heads (drop base bs)) x ≡ Some b.declared
declared_at_found bs base at x b once behind named found = declared_at_place (drop base bs) (at - base) x b once
    (named_from_base bs base at x behind named) (at_from_base bs base at behind ∙ found)

-- a name that is not bound is not declared
pub none_declared : (bs : List Bind) (x : ℕ) → bound_in bs x ≡ None → declared_as (heads bs) x ≡ None
none_declared [] x none = refl
none_declared (b ∷ bs) x none = by_test (nat_eq b.name x) none (none_declared bs x)
  where
    by_test : (t : Bool) → (if t then Some b.bound else bound_in bs x) ≡ None
        → (bound_in bs x ≡ None → declared_as (heads bs) x ≡ None)
        → (if t then Some b.declared else declared_as (heads bs) x) ≡ None
    by_test true some others = absurd (none-some b.bound (sym some))
    by_test false others_none others = others others_none

-- ---- names that end

-- the first so many binds
pub names_kept : (bs : List Bind) (n x : ℕ)
    → bound_in (take n bs) x ≡ given (declared_as (take n (heads bs)) x) None (λ q. bound_in bs x)
names_kept bs zero x = refl
names_kept [] (suc n) x = refl
names_kept (b ∷ bs) (suc n) x = by_test (names_kept bs n x) (nat_eq b.name x)
  where
    by_test : bound_in (take n bs) x ≡ given (declared_as (take n (heads bs)) x) None (λ q. bound_in bs x)
        → (t : Bool) → (if t then Some b.bound else bound_in (take n bs) x)
        ≡ given (if t then Some b.declared else declared_as (take n (heads bs)) x) None
        (λ q. if t then Some b.bound else bound_in bs x)
    by_test others true = refl
    by_test others false = others

some_are_once : (bs : List Bind) (n x : ℕ) → bound_in bs x ≡ None → bound_in (take n bs) x ≡ None
some_are_once bs n x none = names_kept bs n x ∙ either (declared_as (take n (heads bs)) x)
  where
    either : (o : Option Perm) → given o None (λ q. bound_in bs x) ≡ None
    either None = refl
    either (Some q) = none

-- of binds of which no name is bound twice the first so many are such
pub once_kept : (bs : List Bind) (n : ℕ) → bound_once bs ≡ true → bound_once (take n bs) ≡ true
once_kept bs zero once = refl
once_kept [] (suc n) once = refl
once_kept (b ∷ bs) (suc n) once = and_from (not (is_some (bound_in (take n bs) b.name))) (bound_once (take n bs))
    (there_is_none (bound_in (take n bs) b.name) (some_are_once bs n b.name (first_is_alone b bs once)))
    (once_kept bs n (others_once b bs once))

-- ---- one name, changed twice and not at all

pub with_twice : {A : Type 0} (x : ℕ) (a b : A) (f : ℕ → A) → with x b (with x a f) ≡ with x b f
with_twice x a b f = functions_agree (with x b (with x a f)) (with x b f) (λ y. asked_twice (nat_eq x y) b a (f y))

pub with_itself : {A : Type 0} (x : ℕ) (v : A) (f : ℕ → A) → f x ≡ v → with x v f ≡ f
with_itself {A} x v f same = functions_agree (with x v f) f (λ y. by_test y (nat_eq x y) refl)
  where
    by_test : (y : ℕ) (t : Bool) → nat_eq x y ≡ t → (if t then v else f y) ≡ f y
    by_test y true q = sym same ∙ ap f (eqb-true x y q)
    by_test y false q = refl

with_at : {A : Type 0} (x : ℕ) (v : A) (f : ℕ → A) → with x v f x ≡ v
with_at x v f = ap (λ t. if t then v else f x) (number_is_itself x)

-- where what is bound gives way, and then what it is changed to is bound, it is changed
pub changed_by : (x : ℕ) (f g h : ℕ → Option Bound) (b a r : Bound) (change : Bound → Bound) → f x ≡ Some b
    → g ≡ with x (Some a) f → h ≡ with x (Some r) g → r ≡ change b → h ≡ with x (option_map change (f x)) f
changed_by x f g h b a r change at first second is =
    second
    ∙ ap (with x (Some r)) first
    ∙ with_twice x (Some a) (Some r) f
    ∙ ap (λ o. with x o f) (ap Some is ∙ sym (ap (option_map change) at))

-- the same, where each is bound if something was
pub changed_there : (x : ℕ) (f g h : ℕ → Option Bound) (b a r : Bound) (change : Bound → Bound) → f x ≡ Some b
    → g ≡ with x (option_map (λ _. a) (f x)) f → h ≡ with x (option_map (λ _. r) (g x)) g → r ≡ change b
    → h ≡ with x (option_map change (f x)) f
changed_there x f g h b a r change at first second is = changed_by x f g h b a r change at
    (first ∙ ap (λ o. with x (option_map (λ _. a) o) f) at)
    (second ∙ ap (λ o. with x (option_map (λ _. r) o) g)
    (ap (λ k. k x) first ∙ with_at x (option_map (λ _. a) (f x)) f ∙ ap (option_map (λ _. a)) at))
    is

-- where nothing was bound, and nothing is bound in its place, no change is seen
pub changed_nothing : (x : ℕ) (f g : ℕ → Option Bound) (a : Bound) (change : Bound → Bound) → f x ≡ None
    → g ≡ with x (option_map (λ _. a) (f x)) f → g ≡ with x (option_map change (f x)) f
changed_nothing x f g a change none same = same
    ∙ ap (λ o. with x (option_map (λ _. a) o) f) none
    ∙ ap (λ o. with x (option_map change o) f) (sym none)

-- what is changed into itself stays
pub changed_to_itself : (x : ℕ) (f : ℕ → Option Bound) → with x (option_map (λ b. b) (f x)) f ≡ f
changed_to_itself x f = with_itself x (option_map (λ b. b) (f x)) f (by_cases (f x))
  where
    by_cases : (o : Option Bound) → o ≡ option_map (λ b. b) o
    by_cases None = refl
    by_cases (Some b) = refl

-- where what is bound gives way, and another thing is put there, that is bound
pub put_back : (x : ℕ) (f g h : ℕ → Option Bound) (b a r : Bound) → f x ≡ Some b
    → g ≡ with x (option_map (λ _. a) (f x)) f → h ≡ with x (option_map (λ _. r) (g x)) g → h ≡ with x (Some r) f
put_back x f g h b a r at first second = changed_there x f g h b a r (λ _. r) at first second refl
    ∙ ap (λ o. with x (option_map (λ _. r) o) f) at

-- where nothing was bound, and nothing is bound in its place, all stays
pub nothing_put : (x : ℕ) (f g : ℕ → Option Bound) (a : Bound) → f x ≡ None
    → g ≡ with x (option_map (λ _. a) (f x)) f → g ≡ f
nothing_put x f g a none same = same
    ∙ ap (λ o. with x (option_map (λ _. a) o) f) none
    ∙ with_itself x None f none

-- ---- as the meaning sees it

-- what is shown of a function with one name changed is what is shown of it, with that name changed
shown_with : {A B : Type 0} (shows : A → Option B) (n : ℕ) (b : Option A) (f : ℕ → Option A)
    → (λ x. given (with n b f x) None shows) ≡ with n (given b None shows) (λ x. given (f x) None shows)
shown_with {A} {B} shows n b f = functions_agree (λ x. given (with n b f x) None shows)
    (with n (given b None shows) (λ x. given (f x) None shows)) (λ x. by_test x (nat_eq n x))
  where
    by_test : (x : ℕ) (t : Bool) → given (if t then b else f x) None shows
        ≡ (if t then given b None shows else given (f x) None shows)
    by_test x true = refl
    by_test x false = refl

-- locals and groups change under the one name alone
pub one_name_changes : BindsChangeOneName
one_name_changes n b binds = record {
  locals = shown_with local_bound n b binds;
  groups = λ cells. shown_with (group_bound cells) n b binds;
}

abbrev state_of : (ℕ → CellName) → Option meant_value.Val → (ℕ → Option Bound) → State
state_of cells r binds = record { locals = locals_in binds; groups = groups_in cells binds; result = r }

-- a local changes
pub locals_change : LocalsChange
locals_change cells r e f x b same before after =
    ap (λ (binds : ℕ → Option Bound). state_of cells r binds) same
    ∙ ap (λ ls. record { locals = ls; groups = groups_in cells (with x b (bound_under e)); result = r })
    (shown_with local_bound x b (bound_under e))
    ∙ ap (λ gs. record { locals = with x (given b None local_bound) (locals_in (bound_under e)); groups = gs; result = r })
    (shown_with (group_bound cells) x b (bound_under e)
    ∙ ap (λ c. with x c (groups_in cells (bound_under e))) after
    ∙ with_itself x None (groups_in cells (bound_under e)) before)

-- a group changes
pub groups_change : GroupsChange
groups_change cells r e f g b same before after =
    let x = name_of (state_in cells r e) g in
    ap (λ (binds : ℕ → Option Bound). state_of cells r binds) same
    ∙ ap (λ ls. record { locals = ls; groups = groups_in cells (with x b (bound_under e)); result = r })
    (shown_with local_bound x b (bound_under e)
    ∙ ap (λ c. with x c (locals_in (bound_under e))) after
    ∙ with_itself x None (locals_in (bound_under e)) before)
    ∙ ap (λ gs. record { locals = locals_in (bound_under e); groups = gs; result = r })
    (shown_with (group_bound cells) x b (bound_under e))
