-- Facts on the names with which a body begins, bound one after another.
use Rattle.std.proofs.Common.{◌≡◌, ◌∙◌, ℕ, nat_eq, Bool, true, false, not, List, [], ◌∷◌, ◌++◌, Option, None}
use Rattle.std.proofs.Common.{Some, refl, ap, sym, subst, append_assoc, reverse, length, arith}
use Rattle.std.specs.Prelude.{if◌then◌else◌, zip, filter_map}
use Rattle.std.specs.List.{cons_option}
use Rattle.std.proofs.lemmas.List.{reverse-append}
use Rattle.std.proofs.lemmas.Bool.{eqb-true, not-true, or_right}
use Rattle.ae_rules.specs.Lookups.{has_name}
use Rattle.ae_semantics.specs.Places.{with}
use Rattle.ae_values.specs.declared.env.Env.{Env}
use Rattle.ae_values.specs.declared.env.Bound.{Bound}
use Rattle.ae_values.specs.declared.env.Bound.TheVariants as bound
use Rattle.ae_values.specs.Environments.{bound_under, running_binds, waiting_binds}
use Rattle.ae_values.specs.Shapes.{shapes, OfLocal}
use Rattle.ae_frames.specs.declared.given.Arg.{Arg}
use Rattle.ae_frames.specs.declared.given.Parameter.{Parameter}
use Rattle.ae_frames.specs.declared.granted.Back.{Back}
use Rattle.ae_frames.specs.declared.granted.Granted.{Granted}
use Rattle.ae_frames.specs.Entries.{all_differ}
use Rattle.ae_frames.specs.Givens.{argument_of, arguments_of, taker_of, takers_of, names_bound_by}
use Rattle.ae_frames.specs.Bounds.{bound_by, shapes_by}
use Rattle.ae_frames.specs.Kept.{returning}
use Rattle.ae_frames.specs.Shown.{backs_of, bound_to, shapes_to, group_names_of}
use Rattle.ae_frames.proofs.from_text.Basics.{functions_agree, first_of_both, second_of_both, first_of_neither}
use Rattle.ae_frames.proofs.from_text.Basics.{second_of_neither, no_test_is_both}
use Rattle.ae_frames.proofs.LendLemmas.{completed}

-- the last of a list is the first of it reversed
pub last_is_first : {A : Type 0} (ys zs : List A) (x : A) → ys ≡ zs ++ x ∷ [] → reverse ys ≡ x ∷ reverse zs
last_is_first ys zs x h = ap reverse h ∙ reverse-append zs (x ∷ [])

-- of two tests of which at most one holds either may be asked first
either_is_first : {A : Type 0} (s t : Bool) (x y z : A) → (s ≡ true → t ≡ true → ⊥)
    → (if s then x else (if t then y else z)) ≡ (if t then y else (if s then x else z))
either_is_first true true x y z apart = absurd (apart refl refl)
either_is_first true false x y z apart = refl
either_is_first false t x y z apart = refl

-- a name that is none of these is not the first of them
not_both : (m n y : ℕ) → nat_eq m n ≡ false → nat_eq m y ≡ true → nat_eq n y ≡ true → ⊥
not_both m n y apart p q = no_test_is_both (nat_eq m n)
    (subst (λ z. nat_eq m z ≡ true) (sym (eqb-true n y q)) p) apart

-- the first name is none of the others
pub first_is_alone : (x : ℕ) (xs : List ℕ) → all_differ (x ∷ xs) ≡ true → has_name xs x ≡ false
first_is_alone x xs apart = not-true (has_name xs x) (first_of_both (not (has_name xs x)) (all_differ xs) apart)

pub others_differ : (x : ℕ) (xs : List ℕ) → all_differ (x ∷ xs) ≡ true → all_differ xs ≡ true
others_differ x xs apart = second_of_both (not (has_name xs x)) (all_differ xs) apart

-- what was free is so where another name is bound
still_free : (x : ℕ) (xs : List ℕ) (b : Bound) (f : ℕ → Option Bound) (y : ℕ) → has_name xs x ≡ false
    → ((z : ℕ) → has_name (x ∷ xs) z ≡ true → f z ≡ None) → has_name xs y ≡ true → with x (Some b) f y ≡ None
still_free x xs b f y alone free has = by_test (nat_eq x y) refl
  where
    by_test : (t : Bool) → nat_eq x y ≡ t → (if t then Some b else f y) ≡ None
    by_test true q = absurd (no_test_is_both (has_name xs x)
        (subst (λ z. has_name xs z ≡ true) (sym (eqb-true x y q)) has) alone)
    by_test false q = free y (or_right (nat_eq x y) (has_name xs y) has)

-- ---- parameters

-- a name that is none of the parameters may be bound before them
bound_before : (ts : List Parameter) (xs : List Arg) (f : ℕ → Option Bound) (n : ℕ) (b : Bound) (y : ℕ)
    → has_name (names_bound_by ts) n ≡ false
    → bound_by ts xs (with n (Some b) f) y ≡ (if nat_eq n y then Some b else bound_by ts xs f y)
bound_before [] xs f n b y apart = refl
bound_before (t ∷ ts) [] f n b y apart = refl
bound_before (t ∷ ts) (x ∷ xs) f n b y apart =
    ap (λ o. if nat_eq t.name y then Some (bound.Value t.slot.form x.value) else o)
    (bound_before ts xs f n b y (second_of_neither (nat_eq t.name n) (has_name (names_bound_by ts) n) apart))
    ∙ either_is_first (nat_eq t.name y) (nat_eq n y) (Some (bound.Value t.slot.form x.value)) (Some b)
    (bound_by ts xs f y)
    (not_both t.name n y (first_of_neither (nat_eq t.name n) (has_name (names_bound_by ts) n) apart))

-- these parameters are still to be bound to these arguments: the rest completes the whole
pub record BoundSoFar (all : List Parameter) (alls : List Arg) (old e : Env) (ts : List Parameter) (xs : List Arg) (bs : List Back) : Type 0 where
  pub bound : bound_by ts xs (bound_under e) ≡ bound_by all alls (bound_under old)
  pub shaped : shapes (running_binds e) ++ shapes_by ts xs ≡ shapes (running_binds old) ++ shapes_by all alls
  pub apart : all_differ (names_bound_by ts) ≡ true
  pub free : (x : ℕ) → has_name (names_bound_by ts) x ≡ true → bound_under e x ≡ None
  pub waiting : waiting_binds e ≡ waiting_binds old
  pub back : backs_of bs ++ filter_map returning (zip (takers_of ts) (arguments_of xs))
      ≡ filter_map returning (zip (takers_of all) (arguments_of alls))

-- after one more parameter
pub bound_one_more : (all : List Parameter) (alls : List Arg) (old e f : Env) (t : Parameter) (x : Arg)
    (ts : List Parameter) (xs : List Arg) (back more : List Back) → BoundSoFar all alls old e (t ∷ ts) (x ∷ xs) back
    → bound_under f ≡ with t.name (Some (bound.Value t.slot.form x.value)) (bound_under e)
    → shapes (running_binds f) ≡ shapes (running_binds e) ++ (t.name, OfLocal t.slot.form) ∷ []
    → waiting_binds f ≡ waiting_binds e
    → backs_of more ≡ backs_of back ++ cons_option (returning (taker_of t, argument_of x)) []
    → BoundSoFar all alls old f ts xs more
bound_one_more all alls old e f t x ts xs back more so now_bound now_shaped waits now_back =
    let alone = first_is_alone t.name (names_bound_by ts) so.apart in
    let b : Bound = bound.Value t.slot.form x.value in
    record {
      bound = ap (bound_by ts xs) now_bound
          ∙ functions_agree (bound_by ts xs (with t.name (Some b) (bound_under e)))
          (bound_by (t ∷ ts) (x ∷ xs) (bound_under e))
          (λ y. bound_before ts xs (bound_under e) t.name b y alone) ∙ so.bound;
      shaped = ap (λ zs. zs ++ shapes_by ts xs) now_shaped
          ∙ append_assoc (shapes (running_binds e)) ((t.name, OfLocal t.slot.form) ∷ []) (shapes_by ts xs) ∙ so.shaped;
      apart = others_differ t.name (names_bound_by ts) so.apart;
      free = λ y has. ap (λ (g : ℕ → Option Bound). g y) now_bound
          ∙ still_free t.name (names_bound_by ts) b (bound_under e) y alone so.free has;
      waiting = waits ∙ so.waiting;
      back = completed (backs_of back) (backs_of more) (returning (taker_of t, argument_of x))
          (filter_map returning (zip (takers_of ts) (arguments_of xs)))
          (filter_map returning (zip (takers_of all) (arguments_of alls))) now_back so.back;
    }

-- ---- groups

granted_before : (gs : List Granted) (f : ℕ → Option Bound) (n : ℕ) (b : Bound) (y : ℕ)
    → has_name (group_names_of gs) n ≡ false
    → bound_to gs (with n (Some b) f) y ≡ (if nat_eq n y then Some b else bound_to gs f y)
granted_before [] f n b y apart = refl
granted_before (g ∷ gs) f n b y apart =
    ap (λ o. if nat_eq g.group y then Some g.bound else o)
    (granted_before gs f n b y (second_of_neither (nat_eq g.group n) (has_name (group_names_of gs) n) apart))
    ∙ either_is_first (nat_eq g.group y) (nat_eq n y) (Some g.bound) (Some b) (bound_to gs f y)
    (not_both g.group n y (first_of_neither (nat_eq g.group n) (has_name (group_names_of gs) n) apart))

-- these groups are still to be bound
pub record GrantedSoFar (all : List Granted) (old e : Env) (gs : List Granted) : Type 0 where
  pub bound : bound_to gs (bound_under e) ≡ bound_to all (bound_under old)
  pub shaped : shapes (running_binds e) ++ shapes_to gs ≡ shapes (running_binds old) ++ shapes_to all
  pub apart : all_differ (group_names_of gs) ≡ true
  pub free : (x : ℕ) → has_name (group_names_of gs) x ≡ true → bound_under e x ≡ None
  pub waiting : waiting_binds e ≡ waiting_binds old

-- after one more group
pub granted_one_more : (all : List Granted) (old e f : Env) (g : Granted) (gs : List Granted)
    → GrantedSoFar all old e (g ∷ gs) → bound_under f ≡ with g.group (Some g.bound) (bound_under e)
    → shapes (running_binds f) ≡ shapes (running_binds e) ++ shapes_to (g ∷ []) → waiting_binds f ≡ waiting_binds e
    → GrantedSoFar all old f gs
granted_one_more all old e f g gs so now_bound now_shaped waits =
    let alone = first_is_alone g.group (group_names_of gs) so.apart in
    record {
      bound = ap (bound_to gs) now_bound
          ∙ functions_agree (bound_to gs (with g.group (Some g.bound) (bound_under e))) (bound_to (g ∷ gs)
          (bound_under e))
          (λ y. granted_before gs (bound_under e) g.group g.bound y alone) ∙ so.bound;
      shaped = ap (λ zs. zs ++ shapes_to gs) now_shaped
          ∙ append_assoc (shapes (running_binds e)) (shapes_to (g ∷ [])) (shapes_to gs) ∙ so.shaped;
      apart = others_differ g.group (group_names_of gs) so.apart;
      free = λ y has. ap (λ (h : ℕ → Option Bound). h y) now_bound
          ∙ still_free g.group (group_names_of gs) g.bound (bound_under e) y alone so.free has;
      waiting = waits ∙ so.waiting;
    }

-- ---- at the end

-- a list without items is empty, either way round
pub nothing_left : {A : Type 0} (xs : List A) → length xs ≡ 0 → reverse xs ≡ []
nothing_left [] h = refl
nothing_left (x ∷ xs) h = absurd (omega arith)

-- without arguments nothing is bound
bound_to_nothing : (ts : List Parameter) (f : ℕ → Option Bound) → bound_by ts [] f ≡ f
bound_to_nothing [] f = refl
bound_to_nothing (t ∷ ts) f = refl

-- no arguments are left
pub no_arguments_left : (all : List Parameter) (alls : List Arg) (old e : Env) (ts : List Parameter) (xs : List Arg)
    (bs : List Back) → length xs ≡ 0 → BoundSoFar all alls old e ts (reverse xs) bs
    → bound_under e ≡ bound_by all alls (bound_under old)
no_arguments_left all alls old e ts xs bs none so = sym (bound_to_nothing ts (bound_under e))
    ∙ ap (λ zs. bound_by ts zs (bound_under e)) (sym (nothing_left xs none)) ∙ so.bound

-- no parameters are left
pub no_parameters_left : (all : List Parameter) (alls : List Arg) (old e : Env) (ts : List Parameter) (xs : List Arg)
    (bs : List Back) → length ts ≡ 0 → BoundSoFar all alls old e (reverse ts) xs bs
    → bound_under e ≡ bound_by all alls (bound_under old)
no_parameters_left all alls old e ts xs bs none so =
    ap (λ zs. bound_by zs xs (bound_under e)) (sym (nothing_left ts none)) ∙ so.bound

-- no groups are left
pub no_groups_left : (all : List Granted) (old e : Env) (gs : List Granted) → length gs ≡ 0
    → GrantedSoFar all old e (reverse gs) → bound_under e ≡ bound_to all (bound_under old)
no_groups_left all old e gs none so = ap (λ zs. bound_to zs (bound_under e)) (sym (nothing_left gs none)) ∙ so.bound
