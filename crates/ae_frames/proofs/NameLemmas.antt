-- Facts on names that all differ, and on what stands in lists of what is got.
use Rattle.std.proofs.Common.{◌≡◌, ◌∙◌, ℕ, nat_eq, Bool, true, false, not, ◌||◌, List, [], ◌∷◌, ◌++◌, map, Option}
use Rattle.std.proofs.Common.{None, Some, refl, ap, sym, subst}
use Rattle.std.specs.List.{cons_option}
use Rattle.std.proofs.lemmas.Bool.{and_from, eqb-true}
use Rattle.ae_tree.specs.declared.tree.GroupNeed.{GroupNeed}
use Rattle.ae_rules.specs.Lookups.{has_name}
use Rattle.ae_semantics.specs.Places.{Group}
use Rattle.ae_frames.specs.Entries.{all_differ, need_names}
use Rattle.ae_frames.specs.Granting.{got, named_so, all_got}
use Rattle.ae_frames.proofs.from_text.Basics.{no_test_is_both}
use Rattle.ae_frames.proofs.BindingLemmas.{first_is_alone, others_differ}

-- a test that leads to one that fails fails
pub fails_before : (a b : Bool) → (a ≡ true → b ≡ true) → b ≡ false → a ≡ false
fails_before true b leads fails = absurd (no_test_is_both b (leads refl) fails)
fails_before false b leads fails = refl

pub negated : (a : Bool) → a ≡ false → not a ≡ true
negated true h = absurd (cc)
negated false h = refl

-- a name that one of two lists has is in both together
in_first_or_second : (xs ys : List ℕ) (y : ℕ) → has_name (xs ++ ys) y ≡ (has_name xs y || has_name ys y)
in_first_or_second [] ys y = refl
in_first_or_second (x ∷ xs) ys y = by_test (nat_eq x y) (in_first_or_second xs ys y)
  where
    by_test : (t : Bool) → has_name (xs ++ ys) y ≡ (has_name xs y || has_name ys y)
        → (t || has_name (xs ++ ys) y) ≡ ((t || has_name xs y) || has_name ys y)
    by_test true h = refl
    by_test false h = h

in_first : (xs ys : List ℕ) (y : ℕ) → has_name xs y ≡ true → has_name (xs ++ ys) y ≡ true
in_first xs ys y h = in_first_or_second xs ys y ∙ ap (λ t. t || has_name ys y) h

in_second : (xs ys : List ℕ) (y : ℕ) → has_name ys y ≡ true → has_name (xs ++ ys) y ≡ true
in_second xs ys y h = in_first_or_second xs ys y ∙ ap (λ t. has_name xs y || t) h ∙ either (has_name xs y)
  where
    either : (t : Bool) → (t || true) ≡ true
    either true = refl
    either false = refl

-- of names that all differ the first so many do
pub first_differ : (xs ys : List ℕ) → all_differ (xs ++ ys) ≡ true → all_differ xs ≡ true
first_differ [] ys apart = refl
first_differ (x ∷ xs) ys apart = and_from (not (has_name xs x)) (all_differ xs)
    (negated (has_name xs x) (fails_before (has_name xs x) (has_name (xs ++ ys) x) (in_first xs ys x)
    (first_is_alone x (xs ++ ys) apart)))
    (first_differ xs ys (others_differ x (xs ++ ys) apart))

-- the rest of them do
pub rest_differ : (xs ys : List ℕ) → all_differ (xs ++ ys) ≡ true → all_differ ys ≡ true
rest_differ [] ys apart = apart
rest_differ (x ∷ xs) ys apart = rest_differ xs ys (others_differ x (xs ++ ys) apart)

-- none of the rest is one of the first
pub rest_are_others : (xs ys : List ℕ) (y : ℕ) → all_differ (xs ++ ys) ≡ true → has_name ys y ≡ true
    → has_name xs y ≡ false
rest_are_others [] ys y apart has = refl
rest_are_others (x ∷ xs) ys y apart has =
    by_test (rest_are_others xs ys y (others_differ x (xs ++ ys) apart) has) (nat_eq x y) refl
  where
    by_test : has_name xs y ≡ false → (t : Bool) → nat_eq x y ≡ t → (t || has_name xs y) ≡ false
    by_test others true q = absurd (no_test_is_both (has_name (xs ++ ys) x)
        (in_second xs ys x (subst (λ z. has_name ys z ≡ true) (sym (eqb-true x y q)) has))
        (first_is_alone x (xs ++ ys) apart))
    by_test others false q = others

-- ---- the names of what is got

-- the names in a list of what is got
abbrev pub got_names : List (ℕ × Group) → List ℕ
got_names xs = map (λ (x : ℕ × Group). x.0) xs

-- what is got has the name of a need
pub got_is_needed : (groups : ℕ → ℕ) (cs : ℕ → Option Group) (es ns : List GroupNeed) (y : ℕ)
    → has_name (got_names (all_got groups cs es ns)) y ≡ true → has_name (need_names ns) y ≡ true
got_is_needed groups cs es [] y has = has
got_is_needed groups cs es (n ∷ ns) y has = by_got (got groups cs es n.group.name) (nat_eq n.group.name y) refl has
    (got_is_needed groups cs (es ++ (n ∷ [])) ns y)
  where
    rest : List (ℕ × Group)
    rest = all_got groups cs (es ++ (n ∷ [])) ns

    by_got : (o : Option Group) (t : Bool) → nat_eq n.group.name y ≡ t
        → has_name (got_names (cons_option (named_so n.group.name o) rest)) y ≡ true
        → (has_name (got_names rest) y ≡ true → has_name (need_names ns) y ≡ true)
        → (t || has_name (need_names ns) y) ≡ true
    by_got o true q has later = refl
    by_got None false q has later = later has
    by_got (Some c) false q has later = later (ap (λ u. u || has_name (got_names rest) y) (sym q) ∙ has)

-- the names of what is got all differ
pub got_differ : (groups : ℕ → ℕ) (cs : ℕ → Option Group) (es ns : List GroupNeed) → all_differ (need_names ns) ≡ true
    → all_differ (got_names (all_got groups cs es ns)) ≡ true
got_differ groups cs es [] apart = refl
got_differ groups cs es (n ∷ ns) apart = by_got (got groups cs es n.group.name)
    (got_differ groups cs (es ++ (n ∷ [])) ns (others_differ n.group.name (need_names ns) apart))
  where
    rest : List (ℕ × Group)
    rest = all_got groups cs (es ++ (n ∷ [])) ns

    by_got : (o : Option Group) → all_differ (got_names rest) ≡ true
        → all_differ (got_names (cons_option (named_so n.group.name o) rest)) ≡ true
    by_got None others = others
    by_got (Some c) others = and_from (not (has_name (got_names rest) n.group.name)) (all_differ (got_names rest))
        (negated (has_name (got_names rest) n.group.name)
        (fails_before (has_name (got_names rest) n.group.name) (has_name (need_names ns) n.group.name)
        (got_is_needed groups cs (es ++ (n ∷ [])) ns n.group.name) (first_is_alone n.group.name (need_names ns) apart)))
        others
