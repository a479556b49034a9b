-- The list of the statements for which a statement waits.
use Rattle.std.proofs.Common.{◌≡◌, ◌<◌, ◌⊎◌, inl, inr, refl, sym, ap, ◌∙◌, subst, arith, ℕ, zero, suc, nat_lt, Bool}
use Rattle.std.proofs.Common.{true, false, ◌||◌, not, if◌then◌else◌, List, [], ◌∷◌, ◌++◌, length, Option, None, Some}
use Rattle.std.specs.List.{Contains}
use Rattle.std.specs.Prelude.{slice_index_or}
use Rattle.std.proofs.lemmas.List.{append-nil}
use Rattle.std.proofs.lemmas.Bool.{cases_order, and_from, not-true, not_from_false, or_cases, or_left, or_right}
use Rattle.std.proofs.lemmas.Bool.Decides.{nat_tests}
use Rattle.std.proofs.lemmas.List.Elements.{Contains-append_left, Contains-append_right, Contains-append_cases}
use Rattle.ae_rules.specs.declared.uses.Resource.{Resource}
use Rattle.ae_rules.specs.declared.uses.Resource.TheVariants as resource
use Rattle.ae_rules.specs.declared.uses.Mode.{Mode}
use Rattle.ae_rules.specs.Edges.{are_compatible, is_strong, IsConflict, IsWeak, IsRising, BlockUses, Edge}
use Rattle.ae_rules.specs.Context.{all_below}
use Rattle.ae_rules.specs.EdgeLists.{conflicts, is_weak, edge_on, any_below, is_edge, those_below}
use Rattle.ae_rules.specs.EdgeLaws.{name_of_resource, NamesBelow, PredsAreEdges, ModeTestsAreExact}
use Rattle.ae_rules.proofs.from_text.Basics.{below_or_last}
use Rattle.ae_rules.proofs.from_text.Basics.{first_of_both, second_of_both}

-- ---- tests

-- what is so of all numbers below a bound is so of each
pub all_at : (n : ℕ) (test : ℕ → Bool) (i : ℕ) → all_below n test ≡ true → i < n → test i ≡ true
all_at zero test i e l = absurd (omega (arith, l))
all_at (suc n) test i e l = elim (below_or_last i n l) [
  | inl m ↦ all_at n test i (second_of_both (test n) (all_below n test) e) m
  | inr q ↦ ap test q ∙ first_of_both (test n) (all_below n test) e
]

-- what is so of each number below a bound is so of all
pub all_of : (n : ℕ) (test : ℕ → Bool) → ((i : ℕ) → i < n → test i ≡ true) → all_below n test ≡ true
all_of zero test h = refl
all_of (suc n) test h = and_from (test n) (all_below n test) (h n (omega arith))
    (all_of n test (λ i l. h i (omega (arith, l))))

any_at : (n : ℕ) (test : ℕ → Bool) → any_below n test ≡ true → (i : ℕ) × (test i ≡ true)
any_at zero test e = absurd (cc)
any_at (suc n) test e = elim (or_cases (any_below n test) (test n) e) [ inl h ↦ any_at n test h | inr h ↦ (n, h) ]

any_of : (n : ℕ) (test : ℕ → Bool) (i : ℕ) → i < n → test i ≡ true → any_below n test ≡ true
any_of zero test i l e = absurd (omega (arith, l))
any_of (suc n) test i l e = elim (below_or_last i n l) [
  | inl m ↦ or_left (any_below n test) (test n) (any_of n test i m e)
  | inr q ↦ or_right (any_below n test) (test n) (sym (ap test q) ∙ e)
]

-- ---- lists of numbers

here : (x : ℕ) (xs : List ℕ) → Contains (x ∷ xs) x
here x xs = (0, omega arith, refl)

there : (x : ℕ) (xs : List ℕ) (y : ℕ) → Contains xs y → Contains (x ∷ xs) y
there x xs y h = (suc h.0, omega (arith, h.1), h.2)

only_at : (x y k : ℕ) → k < length (x ∷ []) → slice_index_or (x ∷ []) k y ≡ y → x ≡ y
only_at x y zero l e = e
only_at x y (suc k) l e = absurd (omega (arith, l))

abbrev last_if : Bool → ℕ → List ℕ
last_if b n = if b then n ∷ [] else []

last_is : (b : Bool) (n i : ℕ) → Contains (last_if b n) i → (b ≡ true) × (n ≡ i)
last_is true n i h = (refl, only_at n i h.0 h.1 h.2)
last_is false n i h = absurd (omega (arith, h.1))

last_put : (b : Bool) (n : ℕ) → b ≡ true → Contains (last_if b n) n
last_put true n e = here n []
last_put false n e = absurd (cc)

found : (n : ℕ) (test : ℕ → Bool) (i : ℕ) → Contains (those_below n test) i → (i < n) × (test i ≡ true)
found zero test i h = absurd (omega (arith, h.1))
found (suc n) test i h = elim (Contains-append_cases (those_below n test) (last_if (test n) n) i h) [
  | inl k ↦ let r = found n test i k in let l : i < n = r.0 in (omega (arith, l), r.1)
  | inr k ↦ let r = last_is (test n) n i k in let q : n ≡ i = r.1 in (omega (arith, q), sym (ap test q) ∙ r.0)
]

put : (n : ℕ) (test : ℕ → Bool) (i : ℕ) → i < n → test i ≡ true → Contains (those_below n test) i
put zero test i l e = absurd (omega (arith, l))
put (suc n) test i l e = elim (below_or_last i n l) [
  | inl m ↦ Contains-append_left (those_below n test) (last_if (test n) n) i (put n test i m e)
  | inr q ↦ Contains-append_right (those_below n test) (last_if (test n) n) i
      (subst (λ (x : ℕ). Contains (last_if (test n) n) x) (sym q) (last_put (test n) n (sym (ap test q) ∙ e)))
]

rising_more : (xs : List ℕ) (n : ℕ) → IsRising xs → ((x : ℕ) → Contains xs x → x < n) → IsRising (xs ++ (n ∷ []))
rising_more [] n r h = tt
rising_more (x ∷ []) n r h = (h x (here x []), tt)
rising_more (x ∷ y ∷ xs) n r h = (r.0, rising_more (y ∷ xs) n r.1 (λ z k. h z (there x (y ∷ xs) z k)))

rising_last : (b : Bool) (xs : List ℕ) (n : ℕ) → IsRising xs → ((x : ℕ) → Contains xs x → x < n)
    → IsRising (xs ++ last_if b n)
rising_last true xs n r h = rising_more xs n r h
rising_last false xs n r h = subst IsRising (sym (append-nil xs)) r

rising : (n : ℕ) (test : ℕ → Bool) → IsRising (those_below n test)
rising zero test = tt
rising (suc n) test = rising_last (test n) (those_below n test) n (rising n test) (λ x h. (found n test x h).0)

-- ---- edges

conflict_from : (o q : Option Mode) → conflicts o q ≡ true → IsConflict o q
conflict_from None q e = absurd (cc)
conflict_from (Some m) None e = absurd (cc)
conflict_from (Some m) (Some n) e = not-true (are_compatible m n) e

conflict_to : (o q : Option Mode) → IsConflict o q → conflicts o q ≡ true
conflict_to None q h = absurd h
conflict_to (Some m) None h = absurd h
conflict_to (Some m) (Some n) h = not_from_false (are_compatible m n) h

weak_from : (o : Option Mode) → is_weak o ≡ true → IsWeak o
weak_from None e = tt
weak_from (Some m) e = not-true (is_strong m) e

weak_to : (o : Option Mode) → IsWeak o → is_weak o ≡ true
weak_to None h = refl
weak_to (Some m) h = not_from_false (is_strong m) h

pub mode_tests_are_exact : ModeTestsAreExact
mode_tests_are_exact o q = ((conflict_from o q, conflict_to o q), (weak_from o, weak_to o))

used_first : (o q : Option Mode) → IsConflict o q → (m : Mode) × (o ≡ Some m)
used_first None q h = absurd h
used_first (Some m) q h = (m, refl)

between : (i k : ℕ) (w : Bool) → (not (nat_lt i k) || w) ≡ true → i < k → w ≡ true
between i k true e l = refl
between i k false e l = absurd (not_below (nat_lt i k) (grind (arith, nat_tests, l)) e)
  where
    not_below : (b : Bool) → b ≡ true → (not b || false) ≡ true → ⊥
    not_below true h e = cc
    not_below false h e = cc

not_between : (i k : ℕ) (w : Bool) → (i < k → w ≡ true) → (not (nat_lt i k) || w) ≡ true
not_between i k w h = by_test (nat_lt i k) refl
  where
    by_test : (b : Bool) → nat_lt i k ≡ b → (not b || w) ≡ true
    by_test false e = refl
    by_test true e = h (grind (arith, nat_tests, e))

abbrev clear_at : BlockUses → ℕ → Resource → ℕ → Bool
clear_at uses i r k = not (nat_lt i k) || is_weak (uses k r)

edge_from : (uses : BlockUses) (i j : ℕ) (r : Resource) → i < j → edge_on uses i j r ≡ true → Edge uses i j
edge_from uses i j r l e =
    let c : conflicts (uses i r) (uses j r) ≡ true = first_of_both (conflicts (uses i r) (uses j r))
    (all_below j (clear_at uses i r)) e in
    let w : all_below j (clear_at uses i r) ≡ true = second_of_both (conflicts (uses i r) (uses j r))
    (all_below j (clear_at uses i r)) e in
    record {
      before = l;
      on = r;
      conflict = conflict_from (uses i r) (uses j r) c;
      clear = λ k after until. weak_from (uses k r)
          (between i k (is_weak (uses k r)) (all_at j (clear_at uses i r) k w until) after);
    }

edge_to : (uses : BlockUses) (i j : ℕ) (e : Edge uses i j) → edge_on uses i j e.on ≡ true
edge_to uses i j e =
    and_from (conflicts (uses i e.on) (uses j e.on)) (all_below j (clear_at uses i e.on))
    (conflict_to (uses i e.on) (uses j e.on) e.conflict)
    (all_of j (clear_at uses i e.on)
    (λ k until. not_between i k (is_weak (uses k e.on)) (λ after. weak_to (uses k e.on) (e.clear k after until))))

abbrev on_name : BlockUses → ℕ → ℕ → ℕ → Bool
on_name uses i j x = edge_on uses i j (resource.Local x) || edge_on uses i j (resource.Group x)

pub listed : (n : ℕ) (uses : BlockUses) (i j : ℕ) → i < j → is_edge n uses i j ≡ true → Edge uses i j
listed n uses i j l e =
    let x : (x : ℕ) × (on_name uses i j x ≡ true) = any_at n (on_name uses i j) e in
    elim (or_cases (edge_on uses i j (resource.Local x.0)) (edge_on uses i j (resource.Group x.0)) x.1) [
      | inl h ↦ edge_from uses i j (resource.Local x.0) l h
      | inr h ↦ edge_from uses i j (resource.Group x.0) l h
    ]

on_its_name : (uses : BlockUses) (i j : ℕ) (r : Resource) → edge_on uses i j r ≡ true
    → on_name uses i j (name_of_resource r) ≡ true
on_its_name uses i j (resource.Local x) e = or_left (edge_on uses i j (resource.Local x))
    (edge_on uses i j (resource.Group x)) e
on_its_name uses i j (resource.Group x) e = or_right (edge_on uses i j (resource.Local x))
    (edge_on uses i j (resource.Group x)) e

unlisted : (n : ℕ) (uses : BlockUses) → NamesBelow n uses → (i j : ℕ) → Edge uses i j → is_edge n uses i j ≡ true
unlisted n uses h i j e =
    let u : (m : Mode) × (uses i e.on ≡ Some m) = used_first (uses i e.on) (uses j e.on) e.conflict in
    any_of n (on_name uses i j) (name_of_resource e.on) (h i e.on u.0 u.1)
    (on_its_name uses i j e.on (edge_to uses i j e))

pub preds_are_edges : PredsAreEdges
preds_are_edges n uses h j = record {
  rising = rising j (λ i. is_edge n uses i j);
  exact = λ i. (
    (λ c. let r = found j (λ k. is_edge n uses k j) i c in listed n uses i j r.0 r.1),
    (λ e. put j (λ k. is_edge n uses k j) i e.before (unlisted n uses h i j e)),
  );
}
